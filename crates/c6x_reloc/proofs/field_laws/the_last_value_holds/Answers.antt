use Rattle.c6x_reloc.proofs.Held.{field_held}
use Rattle.c6x_reloc.proofs.field_laws.the_last_value_holds.Goals as goal

pub returns : goal.returns
returns c = λ old new fields field small set last. field_held old new fields field small set last
