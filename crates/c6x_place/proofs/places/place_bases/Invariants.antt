use Rattle.std.proofs.Common.{◌≡◌, ◌≤◌, drop, []}
use Rattle.c6x_place.specs.Places.{bases_from}
use Rattle.c6x_place.proofs.places.place_bases.Given as goal

abbrev pub invariant-loop-number : goal.invariant-loop-number
invariant-loop-number l = record {
  rest : bases_from l.modules l.bases.items l.now l.end (drop l.number-index l.list) ≡ bases_from l.modules [] l.cursor l.end l.list;
  low : l.now ≤ l.end;
}
