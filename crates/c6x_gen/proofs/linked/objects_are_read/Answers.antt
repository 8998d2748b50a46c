use Rattle.c6x_gen.proofs.Readable.{objects_read}
use Rattle.c6x_gen.proofs.linked.objects_are_read.Goals as goal

pub returns : goal.returns
returns c = objects_read
