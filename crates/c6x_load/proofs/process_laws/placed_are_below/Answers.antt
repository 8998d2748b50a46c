use Rattle.c6x_load.proofs.Below.{placed_below}
use Rattle.c6x_load.proofs.process_laws.placed_are_below.Goals as goal

pub returns : goal.returns
returns c = placed_below
