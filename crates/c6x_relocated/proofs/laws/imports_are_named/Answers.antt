use Rattle.c6x_relocated.proofs.Named.{entries_named, stubs_named, words_named}
use Rattle.c6x_relocated.proofs.laws.imports_are_named.Goals as goal

pub returns-clause-entries : goal.returns-clause-entries
returns-clause-entries c = λ objects plan m linked f position before e after split is.
    entries_named objects plan m linked f position before e after split is

pub returns-clause-values : goal.returns-clause-values
returns-clause-values c = λ objects plan m linked f position place wanted listed is.
    words_named objects plan m linked f position place wanted listed is

pub returns-clause-stubs : goal.returns-clause-stubs
returns-clause-stubs c = λ objects plan m linked f position place number listed.
    stubs_named objects plan m linked f position place number listed
