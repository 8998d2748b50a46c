-- Where the modules of a plan stand for each of its processes (SPRAB89, "DSBT Model").
use Rattle.std.specs.Prelude.{◌≡◌, ℕ, ◌+◌, ◌%◌, ◌^◌, ◌<◌, false, All, List, Option, Some, length, slice_get}
use Rattle.c6x_spec.specs.Memory.{Memory}
use Rattle.c6x_spec.specs.Parts.{HoldsAll}
use Rattle.c6x_plan.specs.declared.process_plan.ProcessPlan.{ProcessPlan}
use Rattle.c6x_module.specs.Valid.{IsValid}
use Rattle.c6x_module.specs.declared.module.Module.{Module}
use Rattle.c6x_place.specs.declared.bound_process.BoundProcess.{BoundProcess}
use Rattle.c6x_place.specs.declared.placement.Placement.{Placement}
use Rattle.c6x_place.specs.declared.seat.Seat.{Seat}
use Rattle.c6x_place.specs.Plans.{IsKnown, IsPlacement, bound_plans}
use Rattle.c6x_load.specs.Values.{shift_of, slot_word}
use Rattle.c6x_load.specs.Loaded.{plan_parts}
use Rattle.c6x_relocated.specs.Filled.{Finding, IsMember, address_in, targets_in}
use Rattle.c6x_relocated.specs.Relocated.{Stands}

-- The processes of a plan are bound and placed in a memory, and it holds all their start bytes.
pub record AreLoaded (board : Memory) (modules : List Module) (plans : List ProcessPlan) (bounds : List BoundProcess)
    (placement : Placement) : Type 0 where
  pub valid : All IsValid modules
  pub known : All (IsKnown modules) plans
  pub bound : bounds ≡ bound_plans modules plans
  pub below : board.base + length board.bytes < 2 ^ 32
  pub placed : IsPlacement modules plans bounds board.base (board.base + length board.bytes) placement
  pub held : HoldsAll board (plan_parts false modules plans bounds placement)

-- What a process with this seat finds: the modules of its search list, the texts where they stand once for all, and its own
-- data ranges.
abbrev pub finding_of : List Module → BoundProcess → List (Option ℕ) → Seat → Finding
finding_of modules bound texts seat =
    record { modules = modules; list = bound.modules; texts = texts; bases = seat.bases }

-- This is what the process of a plan with that number finds.
pub record IsFinding (modules : List Module) (bounds : List BoundProcess) (placement : Placement) (process : ℕ)
    (f : Finding) : Type 0 where
  pub bound : BoundProcess
  pub seat : Seat
  pub bound_is : slice_get bounds process ≡ Some bound
  pub seat_is : slice_get placement.seats process ≡ Some seat
  pub is : f ≡ finding_of modules bound placement.texts seat

-- A member of a search list stands in the memory as its process has it. Its text has moved by a multiple of 32, so its
-- fetch packets are as they were (SPRU732, "Fetch Packets").
pub record MemberStands (board : Memory) (f : Finding) (position : ℕ) (m : Module) (text base : ℕ) : Type 0 where
  pub stands : Stands board m text base (slot_word f.modules f.list f.bases) (address_in f) (targets_in f position m)
  pub packets : shift_of text m.text.vaddr % 32 ≡ 0

-- The law: so does every member of every process of a plan.
abbrev pub MembersStand : Type 0
MembersStand =
    (board : Memory) (modules : List Module) (plans : List ProcessPlan) (bounds : List BoundProcess)
    (placement : Placement) → AreLoaded board modules plans bounds placement
    → (process : ℕ) (f : Finding) → IsFinding modules bounds placement process f
    → (position : ℕ) (m : Module) (text base : ℕ) → IsMember f position m text base
    → MemberStands board f position m text base
