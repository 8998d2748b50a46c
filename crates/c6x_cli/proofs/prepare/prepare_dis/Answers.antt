use Rattle.std.proofs.Common.{rules, refl}
use Rattle.c6x_cli.specs.Meaning.{outcome_of, request_steps}
use Rattle.c6x_cli_steps.proofs.Chains.{prepares_first, prepares_then, prepares_own}
use Rattle.c6x_cli.proofs.prepare.prepare_dis.Goals as goal

pub returns-in_err-file-clause-prepares : goal.returns-in_err-file-clause-prepares
unfolding request_steps
returns-in_err-file-clause-prepares g c =
    prepares_first (λ file. file) (λ prepared. outcome_of prepared c.args.board.now) _ _ _ _ _ _ (search rules) c.in_err-file.ensures.prepares

pub returns-clause-prepares : goal.returns-clause-prepares
unfolding request_steps
returns-clause-prepares g c =
    prepares_then (λ file. file) (λ prepared. outcome_of prepared c.args.board.now) _ _ _ _ _ _ _ c.in_ok-file.ensures.prepares
    (prepares_own (λ prepared. outcome_of prepared c.args.board.now) _ _ _ refl)
