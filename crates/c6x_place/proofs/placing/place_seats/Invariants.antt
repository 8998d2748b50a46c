use Rattle.std.proofs.Common.{◌≡◌, ◌≤◌, [], drop}
use Rattle.c6x_place.specs.Plans.{seats_from}
use Rattle.c6x_place.proofs.placing.place_seats.Given as goal

abbrev pub invariant-loop-process : goal.invariant-loop-process
invariant-loop-process l = record {
  rest : seats_from l.modules l.seats.items l.now l.end (drop l.process l.processes) (drop l.process l.bounds) ≡ seats_from l.modules [] l.cursor l.end l.processes l.bounds;
  low : l.now ≤ l.end;
}
