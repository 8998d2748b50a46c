use Rattle.c6x_gen.proofs.Executables.{executables_read}
use Rattle.c6x_gen.proofs.LibraryModules.{libraries_read}
use Rattle.c6x_gen.proofs.read_back.modules_are_read.Goals as goal

pub returns-clause-executable : goal.returns-clause-executable
returns-clause-executable c = executables_read c.objects_are_read.ensures c.sources_are_assembled.ensures c.objects_are_linked.ensures.executable

pub returns-clause-libraries : goal.returns-clause-libraries
returns-clause-libraries c = libraries_read c.objects_are_read.ensures c.sources_are_assembled.ensures c.objects_are_linked.ensures.libraries
