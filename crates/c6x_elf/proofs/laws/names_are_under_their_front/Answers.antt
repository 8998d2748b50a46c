use Rattle.c6x_elf.proofs.Unders.{under_from, under_says}
use Rattle.c6x_elf.proofs.laws.names_are_under_their_front.Goals as goal

pub returns-clause-says : goal.returns-clause-says
returns-clause-says c = under_says

pub returns-clause-holds : goal.returns-clause-holds
returns-clause-holds c = under_from
