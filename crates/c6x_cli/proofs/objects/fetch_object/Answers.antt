use Rattle.std.proofs.Common.{rules}
use Rattle.c6x_cli_steps.proofs.Chains.{prepares_first, prepares_then, prepares_own}
use Rattle.c6x_cli.specs.Linking.{object_file}
use Rattle.c6x_cli.proofs.objects.fetch_object.Goals as goal

pub returns-in_err-file-clause-prepares : goal.returns-in_err-file-clause-prepares
unfolding object_file
returns-in_err-file-clause-prepares g c =
    prepares_first (λ file. file) (λ object. object) _ _ _ _ _ _ (search rules) c.in_err-file.ensures.prepares

pub returns-clause-prepares : goal.returns-clause-prepares
unfolding object_file
returns-clause-prepares g c =
    prepares_then (λ file. file) (λ object. object) _ _ _ _ _ _ _ c.in_ok-file.ensures.prepares
    (prepares_own (λ object. object) _ _ _ c.as_object.ensures.decides)
