use Rattle.std.proofs.Common.{◌≡◌, ◌+◌, ◌*◌, ◌^◌, ◌≤◌, drop}
use Rattle.c6x_layout.specs.Places.{commons_end}
use Rattle.c6x_layout.proofs.commons.commons_end.Given as goal

abbrev pub invariant-loop-number : goal.invariant-loop-number
invariant-loop-number l = record {
  value : commons_end l.near l.at (drop l.number l.bindings) ≡ commons_end l.near l.from l.bindings;
  near : l.at ≤ l.from + 2 ^ 33 * l.number;
}
