use Rattle.c6x_reloc.specs.Table.{row_of}
use Rattle.c6x_reloc.proofs.Sums.{got_value}
use Rattle.c6x_reloc.proofs.shift_laws.got_shift.Goals as goal

pub returns : goal.returns
returns c = λ kind. got_value (row_of kind)
