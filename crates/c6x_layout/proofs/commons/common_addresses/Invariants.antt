use Rattle.std.proofs.Common.{◌≡◌, ◌++◌, true, false, drop}
use Rattle.c6x_layout.specs.Places.{added, commons_end, commons_from}
use Rattle.c6x_layout.proofs.commons.common_addresses.Given as goal

abbrev pub invariant-loop-number : goal.invariant-loop-number
invariant-loop-number l = record {
  made : l.made.items ++ added (commons_from true l.near_at (drop l.number l.bindings)) (commons_from false l.far_at (drop l.number l.bindings)) ≡ added (commons_from true l.near l.bindings) (commons_from false l.far l.bindings);
  near : commons_end true l.near_at (drop l.number l.bindings) ≡ commons_end true l.near l.bindings;
  far : commons_end false l.far_at (drop l.number l.bindings) ≡ commons_end false l.far l.bindings;
}
