use Rattle.c6x_encoding.proofs.Facts.{same_instruction}
use Rattle.c6x_encoding.proofs.laws.at_most_one_instruction.Goals as goal

pub returns : goal.returns
returns c = same_instruction
