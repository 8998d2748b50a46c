use Rattle.std.proofs.Common.{◌≡◌, drop}
use Rattle.c6x_machine.specs.Packet.{two_stores}
use Rattle.c6x_exec.proofs.faults.two_stores.Given as goal

abbrev pub invariant-loop-place : goal.invariant-loop-place
invariant-loop-place l = two_stores (drop l.place l.rows) ≡ two_stores l.rows
