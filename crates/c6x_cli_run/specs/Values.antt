-- The lines on what slots and fields hold when the processes start. A word of the memory holds a number modulo 2^32.
use Rattle.std.specs.Prelude.{ℕ, ◌%◌, ◌^◌, List, [], ◌∷◌, ◌++◌, slice_get, Option, None, Some}
use Rattle.c6x_module.specs.declared.field.Field.{Field}
use Rattle.c6x_module.specs.declared.module.Module.{Module}
use Rattle.c6x_plan.specs.declared.process_plan.ProcessPlan.{ProcessPlan}
use Rattle.c6x_place.specs.declared.bound_process.BoundProcess.{BoundProcess}
use Rattle.c6x_place.specs.declared.target.Target.{Target}
use Rattle.c6x_place.specs.declared.seat.Seat.{Seat}
use Rattle.c6x_load.specs.Reads.{place_at}
use Rattle.c6x_load.specs.Values.{field_value, slot_word, target_address}
use Rattle.c6x_cli_run.specs.declared.loading.Loading.{Loading}
use Rattle.c6x_cli_run.specs.Lines.{field_line, lines_below, slot_line}

-- The slots of a module's table, whose words are these.
abbrev pub slot_lines : List ℕ → Module → (ℕ → ℕ) → List ℕ
slot_lines process m word = lines_below (λ index. slot_line process m.name index (word index % 2 ^ 32)) m.slots

-- Its fields, in the order of the entries, each at its moved address, where its data range stands at `base`.
abbrev pub field_lines : List ℕ → Module → ℕ → (Target → ℕ) → List Field → List Target → List ℕ
field_lines process m base address [] targets = []
field_lines process m base address (field ∷ fields) [] = []
field_lines process m base address (field ∷ fields) (target ∷ targets) =
    field_line process m.name (place_at m base field.place) (field_value field (address target) % 2 ^ 32)
    ++ field_lines process m base address fields targets

abbrev pub member_lines : List ℕ → Option Module → ℕ → (ℕ → ℕ) → (Target → ℕ) → List Target → List ℕ
member_lines process None base word address targets = []
member_lines process (Some m) base word address targets =
    slot_lines process m word ++ field_lines process m base address m.fields targets

-- The members of a search list.
abbrev pub members_lines : List ℕ → List Module → (ℕ → ℕ) → (Target → ℕ) → List ℕ → List ℕ → List (List Target) → List ℕ
members_lines process modules word address [] bases rows = []
members_lines process modules word address (number ∷ list) [] rows = []
members_lines process modules word address (number ∷ list) (base ∷ bases) [] = []
members_lines process modules word address (number ∷ list) (base ∷ bases) (row ∷ rows) =
    member_lines process (slice_get modules number) base word address row
    ++ members_lines process modules word address list bases rows

-- A process, with its own slots and addresses.
unfoldable pub process_values : List Module → List (Option ℕ) → ProcessPlan → BoundProcess → Seat → List ℕ
process_values modules texts plan bound seat =
    members_lines plan.name modules (slot_word modules bound.modules seat.bases) (target_address modules bound.modules texts seat.bases) bound.modules seat.bases bound.targets

abbrev pub processes_values : List Module → List (Option ℕ) → List ProcessPlan → List BoundProcess → List Seat → List ℕ
processes_values modules texts [] bounds seats = []
processes_values modules texts (plan ∷ plans) [] seats = []
processes_values modules texts (plan ∷ plans) (bound ∷ bounds) [] = []
processes_values modules texts (plan ∷ plans) (bound ∷ bounds) (seat ∷ seats) =
    process_values modules texts plan bound seat ++ processes_values modules texts plans bounds seats

-- What all slots and fields hold.
unfoldable pub value_text : Loading → List ℕ
value_text loading =
    processes_values loading.modules loading.placement.texts loading.plan.processes loading.bound.processes loading.placement.seats
