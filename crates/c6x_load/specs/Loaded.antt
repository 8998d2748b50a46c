-- What the memory holds when the processes of a plan start.
use Rattle.std.specs.Prelude.{◌≡◌, ℕ, ◌+◌, ◌-◌, ◌<◌, Bool, List, [], ◌∷◌, ◌++◌, length, replicate, slice_get, slice_index, Option, None, Some}
use Rattle.c6x_spec.specs.Parts.{Part}
use Rattle.c6x_machine.specs.declared.start.Start.{Start}
use Rattle.c6x_module.specs.declared.module.Module.{Module}
use Rattle.c6x_plan.specs.declared.process_plan.ProcessPlan.{ProcessPlan}
use Rattle.c6x_place.specs.declared.bound_process.BoundProcess.{BoundProcess}
use Rattle.c6x_place.specs.declared.target.Target.{Target}
use Rattle.c6x_place.specs.declared.placement.Placement.{Placement}
use Rattle.c6x_place.specs.declared.seat.Seat.{Seat}
use Rattle.c6x_load.specs.Values.{data_image, filled, moved_by, shift_of, slot_word, target_address, text_at}

-- The texts that have a place, in the order of the plan.
abbrev pub text_part : Module → Option ℕ → List Part → List Part
text_part m None rest = rest
text_part m (Some at) rest = record { at = at; bytes = filled m.text } ∷ rest

abbrev pub text_parts : List Module → List (Option ℕ) → List Part
text_parts [] texts = []
text_parts (m ∷ modules) [] = []
text_parts (m ∷ modules) (text ∷ texts) = text_part m text (text_parts modules texts)

-- The data range of a module in a process with these slots and these addresses.
abbrev pub range_bytes : Bool → Option Module → (ℕ → ℕ) → (Target → ℕ) → List Target → List ℕ
range_bytes big None word address targets = []
range_bytes big (Some m) word address targets = (data_image big m word address targets).bytes

-- The data ranges of the members of a list, each at its base.
abbrev pub range_parts : Bool → List Module → (ℕ → ℕ) → (Target → ℕ) → List ℕ → List ℕ → List (List Target) → List Part
range_parts big modules word address [] bases rows = []
range_parts big modules word address (number ∷ list) [] rows = []
range_parts big modules word address (number ∷ list) (base ∷ bases) [] = []
range_parts big modules word address (number ∷ list) (base ∷ bases) (row ∷ rows) =
    record { at = base; bytes = range_bytes big (slice_get modules number) word address row }
    ∷ range_parts big modules word address list bases rows

-- The data ranges of a process.
unfoldable pub seat_ranges : Bool → List Module → BoundProcess → List (Option ℕ) → Seat → List Part
seat_ranges big modules bound texts seat =
    range_parts big modules (slot_word modules bound.modules seat.bases) (target_address modules bound.modules texts seat.bases) bound.modules seat.bases bound.targets

-- And its stack, all zeros.
abbrev pub stack_part : ℕ → Seat → Part
stack_part stack seat = record { at = seat.stack; bytes = replicate stack 0 }

abbrev pub seat_parts : Bool → List Module → ℕ → BoundProcess → List (Option ℕ) → Seat → List Part
seat_parts big modules stack bound texts seat =
    seat_ranges big modules bound texts seat ++ stack_part stack seat ∷ []

abbrev pub seats_parts : Bool → List Module → List (Option ℕ) → List ProcessPlan → List BoundProcess → List Seat → List Part
seats_parts big modules texts [] bounds seats = []
seats_parts big modules texts (plan ∷ plans) [] seats = []
seats_parts big modules texts (plan ∷ plans) (bound ∷ bounds) [] = []
seats_parts big modules texts (plan ∷ plans) (bound ∷ bounds) (seat ∷ seats) =
    seat_parts big modules plan.stack bound texts seat ++ seats_parts big modules texts plans bounds seats

-- All that the processes of a plan have in the memory.
abbrev pub plan_parts : Bool → List Module → List ProcessPlan → List BoundProcess → Placement → List Part
plan_parts big modules plans bounds placement =
    text_parts modules placement.texts ++ seats_parts big modules placement.texts plans bounds placement.seats

-- What a process starts with: the entry, moved with the text; for B14 the moved table of its executable; for B15 the
-- stack's last double word (SPRAB89, "Register conventions").
abbrev pub entry_or : Option Module → ℕ → ℕ
entry_or None text = 0
entry_or (Some m) text = moved_by (shift_of text m.text.vaddr) m.entry

abbrev pub table_or : Option Module → ℕ → ℕ
table_or None base = 0
table_or (Some m) base = moved_by (shift_of base m.memory.vaddr) m.table

unfoldable pub start_of : List Module → ProcessPlan → List (Option ℕ) → Seat → Start
start_of modules plan texts seat = record {
  entry = entry_or (slice_get modules plan.module) (text_at texts plan.module);
  b14 = table_or (slice_get modules plan.module) (slice_index seat.bases 0);
  b15 = seat.stack + plan.stack - 8;
  arg = plan.arg;
  limit = plan.limit;
}

-- A member of a search list is a module, and has a target for each of its fields.
pub record IsReady (modules : List Module) (number : ℕ) (targets : List Target) : Type 0 where
  pub inside : number < length modules
  pub targeted : (m : Module) → slice_get modules number ≡ Some m → length m.fields ≡ length targets

abbrev pub AreReady : List Module → List ℕ → List (List Target) → Type 0
AreReady modules [] rows = Unit {0}
AreReady modules (number ∷ list) [] = Unit {0}
AreReady modules (number ∷ list) (row ∷ rows) = IsReady modules number row × AreReady modules list rows

-- The process has a base and a row of targets for each member of its search list.
pub record IsSeated (modules : List Module) (bound : BoundProcess) (seat : Seat) : Type 0 where
  pub bases : length bound.modules ≡ length seat.bases
  pub rows : length bound.modules ≡ length bound.targets
  pub ready : AreReady modules bound.modules bound.targets

-- The same for each process of a plan.
abbrev pub AreAllSeated : List Module → List BoundProcess → List Seat → Type 0
AreAllSeated modules [] seats = Unit {0}
AreAllSeated modules (bound ∷ bounds) [] = Unit {0}
AreAllSeated modules (bound ∷ bounds) (seat ∷ seats) = IsSeated modules bound seat × AreAllSeated modules bounds seats
