use Rattle.c6x_sched.proofs.Whole.{whole_is_told}
use Rattle.c6x_sched.proofs.laws.whole_play_is_told.Goals as goal

pub returns : goal.returns
returns c = whole_is_told
