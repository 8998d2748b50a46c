use Rattle.c6x_cli_run.proofs.Performs.{carries_stored}
use Rattle.c6x_cli.proofs.commit.commit_store.Goals as goal

pub returns-clause-carries : goal.returns-clause-carries
returns-clause-carries g c = λ out err board policies.
    carries_stored c.store_file.result _ _ _ _ out err board policies c.store_file.ensures.stored c.store_file.ensures.cut c.store_file.ensures.failed c.store_file.ensures.unchanged
