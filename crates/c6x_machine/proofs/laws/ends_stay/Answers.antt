use Rattle.c6x_machine.proofs.Going.{alone_stays}
use Rattle.c6x_machine.proofs.laws.ends_stay.Goals as goal

pub returns : goal.returns
returns c = alone_stays
