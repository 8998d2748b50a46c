use Rattle.std.proofs.Common.{◌≡◌, drop}
use Rattle.c6x_machine.specs.Packet.{misaligned_of, first_end}
use Rattle.c6x_exec.proofs.faults.misaligned.Given as goal

abbrev pub invariant-loop-row : goal.invariant-loop-row
invariant-loop-row l = first_end (misaligned_of) (drop l.row-index l.rows) ≡ first_end (misaligned_of) l.rows
