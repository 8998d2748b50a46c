use Rattle.std.proofs.Common.{◌≡◌, drop}
use Rattle.c6x_spec.specs.Firsts.{first_along}
use Rattle.c6x_module.specs.Tables.{symbol_refusal}
use Rattle.c6x_modules.proofs.names.check_symbol_names.Given as goal

abbrev pub invariant-loop-symbol : goal.invariant-loop-symbol
invariant-loop-symbol l = first_along (symbol_refusal l.strings) (drop l.symbol-index l.symbols) ≡ first_along (symbol_refusal l.strings) l.symbols
