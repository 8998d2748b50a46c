-- What can be read back of the processes of a plan, once they are loaded.
use Rattle.std.specs.Prelude.{◌≡◌, ℕ, List, [], ◌∷◌, Option, Some, slice_get}
use Rattle.c6x_spec.specs.Memory.{Memory}
use Rattle.c6x_module.specs.declared.module.Module.{Module}
use Rattle.c6x_place.specs.declared.bound_process.BoundProcess.{BoundProcess}
use Rattle.c6x_place.specs.declared.target.Target.{Target}
use Rattle.c6x_place.specs.declared.seat.Seat.{Seat}
use Rattle.c6x_load.specs.Reads.{IsReadBack}
use Rattle.c6x_load.specs.Values.{slot_word, target_address}

-- Each data range of a list, where it stands.
abbrev pub AreReadBack : Memory → List Module → (ℕ → ℕ) → (Target → ℕ) → List ℕ → List ℕ → List (List Target) → Type 0
AreReadBack board modules word address [] bases rows = Unit {0}
AreReadBack board modules word address (number ∷ list) [] rows = Unit {0}
AreReadBack board modules word address (number ∷ list) (base ∷ bases) [] = Unit {0}
AreReadBack board modules word address (number ∷ list) (base ∷ bases) (row ∷ rows) =
    ((m : Module) → slice_get modules number ≡ Some m → IsReadBack board base m word address row)
    × AreReadBack board modules word address list bases rows

-- The data ranges of a process, with its own slots and addresses.
abbrev pub IsSeatReadBack : Memory → List Module → List (Option ℕ) → BoundProcess → Seat → Type 0
IsSeatReadBack board modules texts bound seat =
    AreReadBack board modules (slot_word modules bound.modules seat.bases) (target_address modules bound.modules texts seat.bases) bound.modules seat.bases bound.targets

abbrev pub AreSeatsReadBack : Memory → List Module → List (Option ℕ) → List BoundProcess → List Seat → Type 0
AreSeatsReadBack board modules texts [] seats = Unit {0}
AreSeatsReadBack board modules texts (bound ∷ bounds) [] = Unit {0}
AreSeatsReadBack board modules texts (bound ∷ bounds) (seat ∷ seats) =
    IsSeatReadBack board modules texts bound seat × AreSeatsReadBack board modules texts bounds seats
