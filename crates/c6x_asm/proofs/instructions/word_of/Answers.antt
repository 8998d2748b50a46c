use Rattle.std.proofs.Common.{false}
use Rattle.c6x_asm.specs.Instructions.{word_of}
use Rattle.c6x_asm.proofs.Encoding.{encoded_valid}
use Rattle.c6x_asm.proofs.instructions.word_of.Goals as goal

pub returns-then-is_valid : goal.returns-then-is_valid
unfolding word_of
returns-then-is_valid c = encoded_valid (record { condition = c.args.condition; op = c.args.op; chained = false }) c.encode.result c.encode.ensures
