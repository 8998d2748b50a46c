use Rattle.c6x_reloc.proofs.Held.{held_in_list}
use Rattle.c6x_reloc.proofs.field_laws.the_last_value_holds_in_the_list.Goals as goal

pub returns : goal.returns
returns c = λ old fields field last. held_in_list old fields field last
