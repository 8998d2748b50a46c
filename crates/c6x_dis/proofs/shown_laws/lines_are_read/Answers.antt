use Rattle.c6x_dis.proofs.ShownValid.{lines_read}
use Rattle.c6x_dis.proofs.shown_laws.lines_are_read.Goals as goal

pub returns : goal.returns
returns c = lines_read
