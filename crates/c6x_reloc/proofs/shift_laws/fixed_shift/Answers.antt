use Rattle.c6x_reloc.specs.Table.{row_of}
use Rattle.c6x_reloc.proofs.Sums.{fixed_value}
use Rattle.c6x_reloc.proofs.shift_laws.fixed_shift.Goals as goal

pub returns : goal.returns
returns c = λ kind. fixed_value (row_of kind)
