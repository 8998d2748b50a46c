use Rattle.std.proofs.Common.{subst}
use Rattle.c6x_gen.specs.declared.generated.Generated.{Generated}
use Rattle.c6x_cli_steps.specs.Steps.{Decides}
use Rattle.c6x_cli.specs.Made.{generated_loading, loading_made}
use Rattle.c6x_cli.proofs.preparing.prepare_generated.Goals as goal

pub returns-clause-decides : goal.returns-clause-decides
unfolding generated_loading
returns-clause-decides c =
    let P : Generated → Type 0 = λ made. Decides (λ loading. loading) (loading_made made c.args.base c.args.len) c.place_made.result in
    subst P c.in-Ok.ensures.made c.place_made.ensures.decides
