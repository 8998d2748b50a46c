use Rattle.std.proofs.Common.{rules}
use Rattle.c6x_cli_steps.specs.Lines.{whole_file}
use Rattle.c6x_cli_steps.proofs.Chains.{prepares_first, prepares_then, prepares_own}
use Rattle.c6x_cli_steps.proofs.files.fetch_whole.Goals as goal

pub returns-in_err-bytes-clause-prepares : goal.returns-in_err-bytes-clause-prepares
unfolding whole_file
returns-in_err-bytes-clause-prepares g c =
    prepares_first (λ bytes. bytes.items) (λ bytes. bytes.items) _ _ _ _ _ _ (search rules) c.in_err-bytes.ensures

pub returns-clause-prepares : goal.returns-clause-prepares
unfolding whole_file
returns-clause-prepares g c =
    prepares_then (λ bytes. bytes.items) (λ bytes. bytes.items) _ _ _ _ _ _ _ c.in_ok-bytes.ensures
    (prepares_own (λ bytes. bytes.items) _ _ _ c.check_length.ensures.decides)
