use Rattle.std.proofs.Common.{◌≡◌, ◌+◌, ◌*◌, ◌^◌, ◌≤◌, drop}
use Rattle.std.specs.Prelude.{filter}
use Rattle.c6x_layout.specs.Groups.{in_group}
use Rattle.c6x_layout.specs.Places.{places_end}
use Rattle.c6x_layout.proofs.placing.group_end.Given as goal

abbrev pub invariant-loop-part : goal.invariant-loop-part
invariant-loop-part l = record {
  value : places_end l.at (filter (in_group l.group) (drop l.part-index l.parts)) ≡ places_end l.from (filter (in_group l.group) l.parts);
  above : l.from ≤ l.at;
  near : l.at ≤ l.from + 2 ^ 33 * l.part-index;
}
