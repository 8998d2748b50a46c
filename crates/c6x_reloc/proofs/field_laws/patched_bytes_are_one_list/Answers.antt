use Rattle.c6x_reloc.proofs.Whole.{whole}
use Rattle.c6x_reloc.proofs.field_laws.patched_bytes_are_one_list.Goals as goal

pub returns : goal.returns
returns c = λ old new fields small set. whole old new fields small set
