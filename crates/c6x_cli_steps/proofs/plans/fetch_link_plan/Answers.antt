use Rattle.std.proofs.Common.{rules}
use Rattle.c6x_cli_steps.proofs.Chains.{prepares_first, prepares_then, prepares_own}
use Rattle.c6x_cli_steps.specs.Plans.{link_plan_steps}
use Rattle.c6x_cli_steps.proofs.plans.fetch_link_plan.Goals as goal

pub returns-in_err-text-clause-prepares : goal.returns-in_err-text-clause-prepares
unfolding link_plan_steps
returns-in_err-text-clause-prepares g c =
    prepares_first (λ bytes. bytes.items) (λ plan. plan) _ _ _ _ _ _ (search rules) c.in_err-text.ensures.prepares

pub returns-clause-prepares : goal.returns-clause-prepares
unfolding link_plan_steps
returns-clause-prepares g c =
    prepares_then (λ bytes. bytes.items) (λ plan. plan) _ _ _ _ _ _ _ c.in_ok-text.ensures.prepares
    (prepares_own (λ plan. plan) _ _ _ (rw (← c.deref.ensures.value) c.link_plan_of.ensures.decides))
