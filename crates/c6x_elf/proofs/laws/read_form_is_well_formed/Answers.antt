use Rattle.c6x_elf.proofs.Packed.{form_from}
use Rattle.c6x_elf.proofs.Unpacked.{form_says}
use Rattle.c6x_elf.proofs.laws.read_form_is_well_formed.Goals as goal

pub returns-clause-says : goal.returns-clause-says
returns-clause-says c = form_says

pub returns-clause-holds : goal.returns-clause-holds
returns-clause-holds c = form_from
