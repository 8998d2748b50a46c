use Rattle.c6x_gen.proofs.Bound.{all_bound}
use Rattle.c6x_gen.proofs.bound_laws.processes_are_bound.Goals as goal

pub returns : goal.returns
returns c = all_bound
