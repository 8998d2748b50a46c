use Rattle.std.proofs.Common.{◌≡◌, ◌+◌, ◌≤◌, drop}
use Rattle.c6x_base.specs.declared.limits.TheConstants.{MOST_NAMES_BYTES}
use Rattle.c6x_module.specs.Tables.{symbol_length, total}
use Rattle.c6x_modules.proofs.sums.sum_symbols.Given as goal

abbrev pub invariant-loop-symbol : goal.invariant-loop-symbol
invariant-loop-symbol l = record {
  sum : l.sum + total (symbol_length l.strings) (drop l.symbol-index l.symbols) ≡ total (symbol_length l.strings) l.symbols;
  small : l.sum ≤ MOST_NAMES_BYTES;
}
