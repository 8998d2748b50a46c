use Rattle.c6x_relocated.proofs.Filled.{linked_filled}
use Rattle.c6x_relocated.proofs.laws.filled_fields_hold.Goals as goal

pub returns : goal.returns
returns c = λ objects plan all none m linked board f position text base ends member stands before e after split dynamic.
    linked_filled objects plan all none m linked board f position text base ends member stands before e after split dynamic
