use Rattle.c6x_elf.proofs.Alone.{tidy_alone}
use Rattle.c6x_elf.proofs.laws.segments_alone_are_tidy.Goals as goal

pub returns : goal.returns
returns c = tidy_alone
