use Rattle.c6x_exec.proofs.Beginning.{no_stamp}
use Rattle.c6x_exec.proofs.initial.no_stamps.Goals as goal

pub returns-clause-none : goal.returns-clause-none
returns-clause-none c t = no_stamp t
