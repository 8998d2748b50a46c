use Rattle.std.specs.Prelude.{◌≡◌, ℕ, ◌+◌, ◌≤◌, All, List, [], ◌∷◌, Option, length}
use Rattle.c6x_module.specs.Valid.{IsValid}
use Rattle.c6x_module.specs.declared.module.Module.{Module}
use Rattle.c6x_plan.specs.declared.process_plan.ProcessPlan.{ProcessPlan}
use Rattle.c6x_place.specs.declared.bound_process.BoundProcess.{BoundProcess}
use Rattle.c6x_place.specs.declared.placement.Placement.{Placement}
use Rattle.c6x_place.specs.declared.seat.Seat.{Seat}
use Rattle.c6x_place.specs.Plans.{IsPlacement}
use Rattle.c6x_load.specs.Areas.{AreBelow, range_areas, text_areas}

-- The areas of a process end below the last address, and its seat has a base for each member of its search list.
pub record IsBelow (modules : List Module) (plan : ProcessPlan) (bound : BoundProcess) (texts : List (Option ℕ)) (seat : Seat) : Type 0 where
  pub seated : length bound.modules ≡ length seat.bases
  pub readable : AreBelow (text_areas modules texts bound.modules)
  pub ranges : AreBelow (range_areas modules bound.modules seat.bases)
  pub stack : seat.stack + plan.stack ≤ 4294967295

abbrev pub AreAllBelow : List Module → List (Option ℕ) → List ProcessPlan → List BoundProcess → List Seat → Type 0
AreAllBelow modules texts [] bounds seats = Unit {0}
AreAllBelow modules texts (plan ∷ plans) [] seats = Unit {0}
AreAllBelow modules texts (plan ∷ plans) (bound ∷ bounds) [] = Unit {0}
AreAllBelow modules texts (plan ∷ plans) (bound ∷ bounds) (seat ∷ seats) =
    IsBelow modules plan bound texts seat × AreAllBelow modules texts plans bounds seats

-- What a placement in a memory gives of each of its processes.
abbrev pub PlacedAreBelow : Type 0
PlacedAreBelow =
    (modules : List Module) → All IsValid modules → (plans : List ProcessPlan) (bounds : List BoundProcess) (base end : ℕ) → length plans ≡ length bounds → end ≤ 4294967295 → (placement : Placement) → IsPlacement modules plans bounds base end placement → AreAllBelow modules placement.texts plans bounds placement.seats
