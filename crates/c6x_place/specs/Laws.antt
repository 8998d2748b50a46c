use Rattle.std.specs.Prelude.{◌≡◌, ◌↔◌, ℕ, List, Some, length}
use Rattle.c6x_module.specs.declared.module.Module.{Module}
use Rattle.c6x_plan.specs.declared.process_plan.ProcessPlan.{ProcessPlan}
use Rattle.c6x_place.specs.declared.bound_process.BoundProcess.{BoundProcess}
use Rattle.c6x_place.specs.declared.placement.Placement.{Placement}
use Rattle.c6x_place.specs.Plans.{IsPlacement, placement_of}

-- The placement as a value is the one placement of a plan, and where it has none there is none.
abbrev pub OnePlacement : Type 0
OnePlacement =
    (modules : List Module) (plans : List ProcessPlan) (bounds : List BoundProcess) (base end : ℕ) → length bounds ≡ length plans → (placement : Placement) → IsPlacement modules plans bounds base end placement ↔ (placement_of modules plans bounds base end ≡ Some placement)
