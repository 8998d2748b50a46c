use Rattle.std.proofs.Common.{rules}
use Rattle.c6x_cli_run.proofs.Told.{untold_as}
use Rattle.c6x_cli_run.proofs.running.put_run.Goals as goal

pub returns-else-turns-clause-tells : goal.returns-else-turns-clause-tells
returns-else-turns-clause-tells g c =
    untold_as c.args.turns _ _ _ _ _ _ _ _ (search rules) c.put_untold_run.ensures.delivers
