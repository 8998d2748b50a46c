use Rattle.std.proofs.Common.{rules}
use Rattle.c6x_cli_steps.proofs.Chains.{prepares_first, prepares_then, prepares_own}
use Rattle.c6x_cli_run.specs.Loading.{loading_steps}
use Rattle.c6x_cli_run.proofs.preparing.prepare_loading.Goals as goal

pub returns-in_err-plan-clause-prepares : goal.returns-in_err-plan-clause-prepares
unfolding loading_steps
returns-in_err-plan-clause-prepares g c =
    prepares_first (λ plan. plan) (λ loading. loading) _ _ _ _ _ _ (search rules) c.in_err-plan.ensures.prepares

pub returns-in_err-modules-clause-prepares : goal.returns-in_err-modules-clause-prepares
unfolding loading_steps
returns-in_err-modules-clause-prepares g c =
    prepares_then (λ plan. plan) (λ loading. loading) _ _ _ _ _ _ _ c.in_ok-plan.ensures.prepares
    (prepares_first (λ modules. modules) (λ loading. loading) _ _ _ _ c.in_err-modules.field-0.0 _ (search rules) (rw (← c.as_slice.ensures) c.in_err-modules.ensures.prepares))

pub returns-clause-prepares : goal.returns-clause-prepares
unfolding loading_steps
returns-clause-prepares g c =
    prepares_then (λ plan. plan) (λ loading. loading) _ _ _ _ _ _ _ c.in_ok-plan.ensures.prepares
    (prepares_then (λ modules. modules) (λ loading. loading) _ _ _ _ _ _ _ (rw (← c.as_slice.ensures) c.in_ok-modules.ensures.prepares)
    (prepares_own (λ loading. loading) _ _ _ c.place_plan.ensures.decides))
