use Rattle.c6x_machine.proofs.Going.{alone_counts}
use Rattle.c6x_machine.proofs.laws.cycles_count.Goals as goal

pub returns : goal.returns
returns c = alone_counts
