use Rattle.c6x_exec.proofs.Beginning.{zeros}
use Rattle.c6x_exec.proofs.initial.no_writes.Goals as goal

pub returns-clause-zeros : goal.returns-clause-zeros
returns-clause-zeros c i = zeros 512 i
