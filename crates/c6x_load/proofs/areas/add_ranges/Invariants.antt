use Rattle.std.proofs.Common.{◌≡◌, ◌++◌, drop}
use Rattle.c6x_load.specs.Areas.{AreBelow, range_areas}
use Rattle.c6x_load.proofs.areas.add_ranges.Given as goal

abbrev pub invariant-loop-position : goal.invariant-loop-position
invariant-loop-position l = record {
  made : l.map ++ range_areas l.modules (drop l.position l.list) (drop l.position l.bases) ≡ l.fn.map ++ range_areas l.modules l.list l.bases;
  below : AreBelow (range_areas l.modules (drop l.position l.list) (drop l.position l.bases));
}
