use Rattle.std.proofs.Common.{◌≡◌}
use Rattle.c6x_link.proofs.Few.{symbols_to}
use Rattle.c6x_link.specs.Targets.{import_symbol}
use Rattle.c6x_link.proofs.import_symbols.import_symbols.Given as goal

abbrev pub invariant-loop-number : goal.invariant-loop-number
invariant-loop-number l = record {
  symbols : l.symbols.items ≡ symbols_to l.bindings l.number;
  next : l.symbol ≡ import_symbol l.bindings l.number;
}
