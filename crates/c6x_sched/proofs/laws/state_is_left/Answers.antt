use Rattle.c6x_sched.proofs.Whole.{left_is}
use Rattle.c6x_sched.proofs.laws.state_is_left.Goals as goal

pub returns : goal.returns
returns c = left_is
