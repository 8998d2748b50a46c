use Rattle.c6x_exec.proofs.Beginning.{start_list}
use Rattle.c6x_exec.proofs.initial.start_registers.Goals as goal

pub returns : goal.returns
returns c = rw (c.set-4.ensures, c.set-3.ensures, c.set-2.ensures, c.set.ensures, c.zero-registers.ensures) (start_list c.args.start.now)
