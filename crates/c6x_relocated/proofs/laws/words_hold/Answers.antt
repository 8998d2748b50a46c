use Rattle.c6x_relocated.proofs.AllWords.{linked_stubs, linked_words}
use Rattle.c6x_relocated.proofs.laws.words_hold.Goals as goal

pub returns-clause-values : goal.returns-clause-values
returns-clause-values c = λ objects plan all none m linked board f position text base ends member stands place wanted listed.
    linked_words objects plan all none m linked board f position text base ends member stands place wanted listed

pub returns-clause-stubs : goal.returns-clause-stubs
returns-clause-stubs c = λ objects plan all none m linked board f position text base ends stands place number listed.
    linked_stubs objects plan m linked board f position text base ends stands place number listed
