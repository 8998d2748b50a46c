-- The same lines as a board has them: each word is read back where it stands.
use Rattle.std.specs.Prelude.{◌≡◌, ℕ, ◌+◌, ◌-◌, ◌*◌, ◌<◌, false, List, [], ◌∷◌, ◌++◌, length, slice_get, Option, None, Some}
use Rattle.c6x_spec.specs.Memory.{IsOnMemory, Memory}
use Rattle.c6x_spec.specs.Numbers.{word_at}
use Rattle.c6x_module.specs.declared.field.Field.{Field}
use Rattle.c6x_module.specs.declared.module.Module.{Module}
use Rattle.c6x_plan.specs.declared.process_plan.ProcessPlan.{ProcessPlan}
use Rattle.c6x_place.specs.declared.bound_process.BoundProcess.{BoundProcess}
use Rattle.c6x_place.specs.declared.seat.Seat.{Seat}
use Rattle.c6x_load.specs.Reads.{place_at}
use Rattle.c6x_cli_run.specs.Lines.{field_line, lines_below, slot_line}

abbrev pub word_on : Memory → ℕ → ℕ
word_on board address = word_at false board.bytes (address - board.base)

unfoldable pub held_slot : Memory → List ℕ → Module → ℕ → ℕ → List ℕ
held_slot board process m base index =
    slot_line process m.name index (word_on board (place_at m base m.table + 4 * index))

unfoldable pub held_field : Memory → List ℕ → Module → ℕ → Field → List ℕ
held_field board process m base field =
    field_line process m.name (place_at m base field.place) (word_on board (place_at m base field.place))

abbrev pub held_fields : Memory → List ℕ → Module → ℕ → List Field → List ℕ
held_fields board process m base [] = []
held_fields board process m base (field ∷ fields) =
    held_field board process m base field ++ held_fields board process m base fields

unfoldable pub held_module : Memory → List ℕ → Module → ℕ → List ℕ
held_module board process m base =
    lines_below (held_slot board process m base) m.slots ++ held_fields board process m base m.fields

abbrev pub held_member : Memory → List ℕ → Option Module → ℕ → List ℕ
held_member board process None base = []
held_member board process (Some m) base = held_module board process m base

abbrev pub held_members : Memory → List ℕ → List Module → List ℕ → List ℕ → List ℕ
held_members board process modules [] bases = []
held_members board process modules (number ∷ list) [] = []
held_members board process modules (number ∷ list) (base ∷ bases) =
    held_member board process (slice_get modules number) base ++ held_members board process modules list bases

abbrev pub held_processes : Memory → List Module → List ProcessPlan → List BoundProcess → List Seat → List ℕ
held_processes board modules [] bounds seats = []
held_processes board modules (plan ∷ plans) [] seats = []
held_processes board modules (plan ∷ plans) (bound ∷ bounds) [] = []
held_processes board modules (plan ∷ plans) (bound ∷ bounds) (seat ∷ seats) =
    held_members board plan.name modules bound.modules seat.bases ++ held_processes board modules plans bounds seats

-- The data range of a module lies on the board.
pub record IsRangeOn (board : Memory) (modules : List Module) (number base : ℕ) : Type 0 where
  pub inside : number < length modules
  pub room : (m : Module) → slice_get modules number ≡ Some m → IsOnMemory board base m.memory.memsz

abbrev pub AreRangesOn : Memory → List Module → List ℕ → List ℕ → Type 0
AreRangesOn board modules [] bases = Unit {0}
AreRangesOn board modules (number ∷ list) [] = Unit {0}
AreRangesOn board modules (number ∷ list) (base ∷ bases) =
    IsRangeOn board modules number base × AreRangesOn board modules list bases

-- The data ranges of each process lie on the board.
abbrev pub AreSeatsOn : Memory → List Module → List BoundProcess → List Seat → Type 0
AreSeatsOn board modules [] seats = Unit {0}
AreSeatsOn board modules (bound ∷ bounds) [] = Unit {0}
AreSeatsOn board modules (bound ∷ bounds) (seat ∷ seats) =
    AreRangesOn board modules bound.modules seat.bases × AreSeatsOn board modules bounds seats
