use Rattle.c6x_sched.proofs.Unique.{one_whole_play}
use Rattle.c6x_sched.proofs.laws.one_whole_play.Goals as goal

pub returns : goal.returns
returns c = one_whole_play
