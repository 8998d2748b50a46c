use Rattle.std.proofs.Common.{◌≡◌, ◌++◌, drop}
use Rattle.std.specs.Prelude.{filter}
use Rattle.c6x_layout.specs.Groups.{in_group}
use Rattle.c6x_layout.specs.Places.{places_end, places_from}
use Rattle.c6x_layout.proofs.placing.place_group.Given as goal

abbrev pub invariant-loop-part : goal.invariant-loop-part
invariant-loop-part l = record {
  places : l.places.items ++ places_from l.at (filter (in_group l.group) (drop l.part-index l.parts)) ≡ l.fn.places.items ++ places_from l.from (filter (in_group l.group) l.parts);
  end : places_end l.at (filter (in_group l.group) (drop l.part-index l.parts)) ≡ places_end l.from (filter (in_group l.group) l.parts);
}
