use Rattle.std.proofs.Common.{◌≡◌, drop}
use Rattle.c6x_machine.specs.Packet.{bad_write_of, first_end}
use Rattle.c6x_exec.proofs.faults.bad_write.Given as goal

abbrev pub invariant-loop-row : goal.invariant-loop-row
invariant-loop-row l = first_end (bad_write_of l.map) (drop l.row-index l.rows) ≡ first_end (bad_write_of l.map) l.rows
