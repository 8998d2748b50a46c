use Rattle.std.proofs.Common.{◌≡◌, List, length}
use Rattle.std.proofs.lemmas.List.{length-map}
use Rattle.c6x_module.specs.declared.module.Module.{Module}
use Rattle.c6x_place.specs.Plans.{bound_plan, bound_plans}
use Rattle.c6x_plan.specs.declared.process_plan.ProcessPlan.{ProcessPlan}

-- each process is bound once
pub one_each : (modules : List Module) (plans : List ProcessPlan) → length (bound_plans modules plans) ≡ length plans
one_each modules plans = length-map plans (bound_plan modules)
