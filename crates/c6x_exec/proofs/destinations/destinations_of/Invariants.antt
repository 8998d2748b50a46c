use Rattle.std.proofs.Common.{◌≡◌, ◌≤◌, ◌*◌, length, take}
use Rattle.std.specs.List.{flat_map}
use Rattle.c6x_machine.specs.Packet.{destinations_of_row}
use Rattle.c6x_exec.proofs.destinations.destinations_of.Given as goal

abbrev pub invariant-loop-row : goal.invariant-loop-row
invariant-loop-row l = record {
  added : l.destinations ≡ flat_map (destinations_of_row l.now) (take l.row-index l.rows);
  few : length l.destinations ≤ 3 * l.row-index;
}
