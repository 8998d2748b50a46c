use Rattle.c6x_cli.proofs.LoadsRead.{linked_loads}
use Rattle.c6x_cli.proofs.load_laws.linked_modules_load.Goals as goal

pub returns : goal.returns
returns c = linked_loads
