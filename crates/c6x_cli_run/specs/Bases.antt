-- The lines on where everything stands.
use Rattle.std.specs.Prelude.{ℕ, List, [], ◌∷◌, ◌++◌, slice_get, Option, None, Some}
use Rattle.c6x_module.specs.declared.module.Module.{Module}
use Rattle.c6x_plan.specs.declared.process_plan.ProcessPlan.{ProcessPlan}
use Rattle.c6x_place.specs.declared.bound_process.BoundProcess.{BoundProcess}
use Rattle.c6x_place.specs.declared.seat.Seat.{Seat}
use Rattle.c6x_cli_run.specs.declared.loading.Loading.{Loading}
use Rattle.c6x_cli_run.specs.Lines.{text_line, data_line, stack_line}

-- The texts that have a place, in the order of the plan.
abbrev pub placed_text : Module → Option ℕ → List ℕ
placed_text m None = []
placed_text m (Some at) = text_line m.name at m.text.memsz

abbrev pub text_lines : List Module → List (Option ℕ) → List ℕ
text_lines [] texts = []
text_lines (m ∷ modules) [] = []
text_lines (m ∷ modules) (text ∷ texts) = placed_text m text ++ text_lines modules texts

-- The data ranges of a process with this name, in the order of its search list.
abbrev pub range_line : List ℕ → Option Module → ℕ → List ℕ
range_line process None base = []
range_line process (Some m) base = data_line process m.name base m.memory.memsz

abbrev pub range_lines : List ℕ → List Module → List ℕ → List ℕ → List ℕ
range_lines process modules [] bases = []
range_lines process modules (number ∷ list) [] = []
range_lines process modules (number ∷ list) (base ∷ bases) =
    range_line process (slice_get modules number) base ++ range_lines process modules list bases

-- And its stack.
unfoldable pub seat_lines : List Module → ProcessPlan → BoundProcess → Seat → List ℕ
seat_lines modules plan bound seat =
    range_lines plan.name modules bound.modules seat.bases ++ stack_line plan.name seat.stack plan.stack

abbrev pub seats_lines : List Module → List ProcessPlan → List BoundProcess → List Seat → List ℕ
seats_lines modules [] bounds seats = []
seats_lines modules (plan ∷ plans) [] seats = []
seats_lines modules (plan ∷ plans) (bound ∷ bounds) [] = []
seats_lines modules (plan ∷ plans) (bound ∷ bounds) (seat ∷ seats) =
    seat_lines modules plan bound seat ++ seats_lines modules plans bounds seats

-- Where everything stands.
unfoldable pub base_text : Loading → List ℕ
base_text loading =
    text_lines loading.modules loading.placement.texts
    ++ seats_lines loading.modules loading.plan.processes loading.bound.processes loading.placement.seats
