use Rattle.std.proofs.Common.{◌≡◌, ◌≤◌, drop, []}
use Rattle.c6x_place.specs.Places.{texts_from}
use Rattle.c6x_place.proofs.places.place_texts.Given as goal

abbrev pub invariant-loop-number : goal.invariant-loop-number
invariant-loop-number l = record {
  rest : texts_from l.texts.items l.cursor l.end (drop l.number l.modules) (drop l.number l.used) ≡ texts_from [] l.base l.end l.modules l.used;
  low : l.cursor ≤ l.end;
}
