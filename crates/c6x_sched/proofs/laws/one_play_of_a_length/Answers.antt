use Rattle.c6x_sched.proofs.Unique.{one_play}
use Rattle.c6x_sched.proofs.laws.one_play_of_a_length.Goals as goal

pub returns : goal.returns
returns c = one_play
