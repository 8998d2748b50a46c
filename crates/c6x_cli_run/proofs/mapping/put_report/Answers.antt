use Rattle.c6x_cli_run.proofs.Settled.{loads_is_settled}
use Rattle.c6x_cli_run.proofs.mapping.put_report.Goals as goal

pub put_bases-requires : goal.put_bases-requires
put_bases-requires g c = loads_is_settled _ _ c.args.loading.now c.requires.loads
