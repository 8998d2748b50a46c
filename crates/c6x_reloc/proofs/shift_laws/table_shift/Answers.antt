use Rattle.c6x_reloc.specs.Table.{row_of}
use Rattle.c6x_reloc.proofs.Sums.{table_value}
use Rattle.c6x_reloc.proofs.shift_laws.table_shift.Goals as goal

pub returns : goal.returns
returns c = λ kind. table_value (row_of kind)
