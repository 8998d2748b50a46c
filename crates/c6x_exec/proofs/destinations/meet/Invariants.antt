use Rattle.std.proofs.Common.{◌≡◌, drop}
use Rattle.c6x_machine.specs.Packet.{two_writes_by}
use Rattle.c6x_exec.specs.Pending.{is_due}
use Rattle.c6x_exec.proofs.destinations.meet.Given as goal

abbrev pub invariant-loop-place : goal.invariant-loop-place
invariant-loop-place l = two_writes_by (is_due l.p.writes.stamps l.p.writes.values) (drop l.place l.destinations) ≡ two_writes_by (is_due l.p.writes.stamps l.p.writes.values) l.destinations
