use Rattle.c6x_reloc.specs.Table.{row_of}
use Rattle.c6x_reloc.proofs.Sums.{packet_value}
use Rattle.c6x_reloc.proofs.shift_laws.packet_shift.Goals as goal

pub returns : goal.returns
returns c = λ kind. packet_value (row_of kind)
