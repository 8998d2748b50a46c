use Rattle.c6x_gen.proofs.AppLinked.{executables_linked}
use Rattle.c6x_gen.proofs.Libraries.{libraries_linked}
use Rattle.c6x_gen.proofs.linked.objects_are_linked.Goals as goal

pub returns-clause-executable : goal.returns-clause-executable
returns-clause-executable c = executables_linked

pub returns-clause-libraries : goal.returns-clause-libraries
returns-clause-libraries c = libraries_linked
