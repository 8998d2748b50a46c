use Rattle.std.proofs.Common.{◌*◌, ◌^◌, ◌≤◌}
use Rattle.c6x_layout.proofs.SharedCounts.{CountsTo}
use Rattle.c6x_layout.proofs.strings.shared_names.Given as goal

abbrev pub invariant-loop-number : goal.invariant-loop-number
invariant-loop-number l = record {
  to : CountsTo l.exported l.bindings l.number l.shared;
  count : l.shared.count ≤ l.number;
  bytes : l.shared.bytes ≤ 2 ^ 25 * l.number;
}
