use Rattle.c6x_load.proofs.ReadBack.{read_back}
use Rattle.c6x_load.proofs.fill_laws.ranges_are_read_back.Goals as goal

pub returns : goal.returns
returns c = read_back
