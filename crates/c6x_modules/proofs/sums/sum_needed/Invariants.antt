use Rattle.std.proofs.Common.{◌≡◌, ◌+◌, ◌≤◌, drop}
use Rattle.c6x_base.specs.declared.limits.TheConstants.{MOST_NAMES_BYTES}
use Rattle.c6x_module.specs.Tables.{needed_length, total}
use Rattle.c6x_modules.proofs.sums.sum_needed.Given as goal

abbrev pub invariant-loop-entry : goal.invariant-loop-entry
invariant-loop-entry l = record {
  sum : l.sum + total (needed_length l.strings) (drop l.entry-index l.entries) ≡ l.from + total (needed_length l.strings) l.entries;
  small : l.sum ≤ MOST_NAMES_BYTES;
}
