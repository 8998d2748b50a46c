use Rattle.c6x_relocated.proofs.Entries.{linked_entries}
use Rattle.c6x_relocated.proofs.laws.entries_hold.Goals as goal

pub returns : goal.returns
returns c = λ objects plan all none m linked board f position text base ends member stands multiple before e after kind split has some alone.
    linked_entries objects plan all none m linked board f position text base ends member stands multiple before e after kind split has some alone
