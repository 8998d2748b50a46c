use Rattle.c6x_dis.proofs.Read.{text_read}
use Rattle.c6x_dis.proofs.text_laws.texts_are_read.Goals as goal

pub returns : goal.returns
returns c = text_read
