use Rattle.c6x_relocated.proofs.Fields.{linked_holds}
use Rattle.c6x_relocated.proofs.laws.linked_fields_hold.Goals as goal

pub returns : goal.returns
returns c = λ objects plan all none m linked board text base word address targets ends stands multiple found before e after kind split has some dynamic alone.
    linked_holds objects plan all none m linked board text base word address targets ends stands multiple found before e after kind split has some dynamic alone
