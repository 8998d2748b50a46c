use Rattle.std.proofs.Common.{◌≡◌, ℕ, List, refl}
use Rattle.std.specs.Prelude.{Option}
use Rattle.c6x_module.specs.declared.module.Module.{Module}
use Rattle.c6x_plan.specs.declared.process_plan.ProcessPlan.{ProcessPlan}
use Rattle.c6x_place.specs.declared.seat.Seat.{Seat}
use Rattle.c6x_load.specs.Loaded.{start_of}

-- a process has the limit of its plan
pub start_limit : (modules : List Module) (plan : ProcessPlan) (texts : List (Option ℕ)) (seat : Seat) → (start_of modules plan texts seat).limit ≡ plan.limit
unfolding start_of
start_limit modules plan texts seat = refl
