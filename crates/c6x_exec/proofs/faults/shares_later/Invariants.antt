use Rattle.std.proofs.Common.{◌≡◌, drop}
use Rattle.c6x_machine.specs.Packet.{shares, first_end}
use Rattle.c6x_exec.proofs.faults.shares_later.Given as goal

abbrev pub invariant-loop-row : goal.invariant-loop-row
invariant-loop-row l = first_end (shares l.first) (drop l.row-index l.rows) ≡ first_end (shares l.first) l.rows
