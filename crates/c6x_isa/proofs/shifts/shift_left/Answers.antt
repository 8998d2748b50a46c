use Rattle.c6x_isa.proofs.Shifting.{shifted_out}
use Rattle.c6x_isa.proofs.shifts.shift_left.Goals as goal

pub returns-else-by-lt32 : goal.returns-else-by-lt32
returns-else-by-lt32 c = shifted_out c.args.value _ c.if-by-lt32.false
