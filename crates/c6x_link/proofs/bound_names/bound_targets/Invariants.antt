use Rattle.std.proofs.Common.{◌≡◌}
use Rattle.c6x_link.specs.TargetRows.{bound_targets}
use Rattle.c6x_link.specs.Targets.{import_symbol}
use Rattle.c6x_link.proofs.bound_names.bound_targets.Given as goal

abbrev pub invariant-loop-number : goal.invariant-loop-number
invariant-loop-number l = record {
  targets : l.targets.items ≡ bound_targets l.link l.number;
  import : l.import ≡ import_symbol l.link.bindings l.number;
}
