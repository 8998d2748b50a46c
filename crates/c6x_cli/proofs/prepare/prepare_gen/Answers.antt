use Rattle.std.proofs.Common.{rules, refl}
use Rattle.c6x_cli.specs.Meaning.{outcome_of, request_steps}
use Rattle.c6x_cli_steps.proofs.Chains.{prepares_first, prepares_then, prepares_own}
use Rattle.c6x_cli.proofs.prepare.prepare_gen.Goals as goal

pub returns-in_err-loading-clause-prepares : goal.returns-in_err-loading-clause-prepares
unfolding request_steps
returns-in_err-loading-clause-prepares c = λ shelf.
    prepares_first (λ loading. loading) (λ prepared. outcome_of prepared c.args.board.now) _ _ _ _ _ _ (search rules)
    (prepares_own (λ loading. loading) _ shelf _ c.in_err-loading.ensures.decides)

pub returns-clause-prepares : goal.returns-clause-prepares
unfolding request_steps
returns-clause-prepares c = λ shelf.
    prepares_then (λ loading. loading) (λ prepared. outcome_of prepared c.args.board.now) _ _ _ _ _ _ _
    (prepares_own (λ loading. loading) _ shelf _ c.in_ok-loading.ensures.decides)
    (prepares_own (λ prepared. outcome_of prepared c.args.board.now) _ _ _ refl)
