use Rattle.std.proofs.Common.{◌≡◌, ◌++◌, drop}
use Rattle.c6x_symbols.specs.Bindings.{is_imported, numbers_where}
use Rattle.c6x_symbols.proofs.bindings.Bindings.imports.Given as goal

abbrev pub invariant-loop-number : goal.invariant-loop-number
invariant-loop-number l = l.numbers.items ++ numbers_where is_imported l.number (drop l.number l.self) ≡ numbers_where is_imported 0 l.self
