use Rattle.std.proofs.Common.{◌≡◌, take}
use Rattle.c6x_machine.specs.Packet.{wait_of}
use Rattle.c6x_exec.proofs.note.longest_wait.Given as goal

abbrev pub invariant-loop-row : goal.invariant-loop-row
invariant-loop-row l = l.most ≡ wait_of (take l.row-index l.rows)
