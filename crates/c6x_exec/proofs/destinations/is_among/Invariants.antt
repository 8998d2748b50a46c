use Rattle.std.proofs.Common.{◌≡◌, drop}
use Rattle.c6x_machine.specs.Packet.{is_among}
use Rattle.c6x_exec.proofs.destinations.is_among.Given as goal

abbrev pub invariant-loop-other : goal.invariant-loop-other
invariant-loop-other l = is_among l.destination (drop l.other-index l.others) ≡ is_among l.destination l.others
