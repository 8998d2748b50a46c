use Rattle.std.proofs.Common.{◌≡◌, ◌++◌, map, drop}
use Rattle.c6x_module.specs.Modules.{symbol_of}
use Rattle.c6x_modules.proofs.copies.copy_symbols.Given as goal

abbrev pub invariant-loop-symbol : goal.invariant-loop-symbol
invariant-loop-symbol l = l.row ++ map (symbol_of l.strings) (drop l.symbol-index l.symbols) ≡ map (symbol_of l.strings) l.symbols
