-- What the processes of a plan start from: the start registers (SPRAB89, "Register conventions"), the bytes of the memory
-- by their addresses, and the areas.
use Rattle.std.specs.Prelude.{ℕ, ◌-◌, false, List, [], ◌∷◌, length, slice_get, slice_index, Option, None, Some, if◌then◌else◌}
use Rattle.c6x_spec.specs.Parts.{Part}
use Rattle.c6x_access.specs.Rights.{is_inside}
use Rattle.c6x_machine.specs.Origin.{Origin, origin_of}
use Rattle.c6x_module.specs.declared.module.Module.{Module}
use Rattle.c6x_plan.specs.declared.process_plan.ProcessPlan.{ProcessPlan}
use Rattle.c6x_place.specs.declared.bound_process.BoundProcess.{BoundProcess}
use Rattle.c6x_place.specs.declared.placement.Placement.{Placement}
use Rattle.c6x_place.specs.declared.seat.Seat.{Seat}
use Rattle.c6x_load.specs.Loaded.{plan_parts, start_of}
use Rattle.c6x_load.specs.Areas.{seat_areas}

-- The byte that a part has at an address; 0 where none has one.
abbrev pub start_byte : List Part → ℕ → ℕ
start_byte [] address = 0
start_byte (p ∷ ps) address =
    if is_inside p.at (length p.bytes) address then slice_index p.bytes (address - p.at) else start_byte ps address

-- Where each process starts, over these bytes.
abbrev pub process_origin : List Module → List (Option ℕ) → (ℕ → ℕ) → ProcessPlan → BoundProcess → Seat → Origin
process_origin modules texts bytes plan bound seat =
    origin_of false (start_of modules plan texts seat) bytes (seat_areas modules plan.stack bound.modules texts seat)

abbrev pub origins_of : List Module → List (Option ℕ) → (ℕ → ℕ) → List ProcessPlan → List BoundProcess → List Seat → List Origin
origins_of modules texts bytes [] bounds seats = []
origins_of modules texts bytes (plan ∷ plans) [] seats = []
origins_of modules texts bytes (plan ∷ plans) (bound ∷ bounds) [] = []
origins_of modules texts bytes (plan ∷ plans) (bound ∷ bounds) (seat ∷ seats) =
    process_origin modules texts bytes plan bound seat ∷ origins_of modules texts bytes plans bounds seats

-- A number past the processes has no areas.
abbrev pub origin_or : Option Origin → Origin
origin_or None = origin_of false (record { entry = 0; b14 = 0; b15 = 0; arg = 0; limit = 0 }) (λ address. 0) []
origin_or (Some origin) = origin

-- Where the process with a number starts: the bytes are those of all parts of the plan.
unfoldable pub origins : List Module → List ProcessPlan → List BoundProcess → Placement → ℕ → Origin
origins modules plans bounds placement number =
    origin_or (slice_get (origins_of modules placement.texts (start_byte (plan_parts false modules plans bounds placement)) plans bounds placement.seats) number)
