use Rattle.std.proofs.Common.{rules}
use Rattle.c6x_cli_steps.proofs.Chains.{prepares_first, prepares_then, prepares_own}
use Rattle.c6x_cli_run.specs.Loading.{image_steps}
use Rattle.c6x_cli_run.proofs.images.with_image.Goals as goal

pub returns-in_err-file-clause-prepares : goal.returns-in_err-file-clause-prepares
unfolding image_steps
returns-in_err-file-clause-prepares g c =
    prepares_first (λ file. file) (λ more. more) _ _ _ _ _ _ (search rules) c.in_err-file.ensures.prepares

pub returns-clause-prepares : goal.returns-clause-prepares
unfolding image_steps
returns-clause-prepares g c =
    prepares_then (λ file. file) (λ more. more) _ _ _ _ _ _ _ c.in_ok-file.ensures.prepares
    (prepares_own (λ more. more) _ _ _ c.take_image.ensures.decides)
