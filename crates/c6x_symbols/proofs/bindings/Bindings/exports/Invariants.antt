use Rattle.std.proofs.Common.{◌≡◌, ◌++◌, drop}
use Rattle.c6x_symbols.specs.Bindings.{is_exported, numbers_where}
use Rattle.c6x_symbols.proofs.bindings.Bindings.exports.Given as goal

abbrev pub invariant-loop-number : goal.invariant-loop-number
invariant-loop-number l = l.numbers.items ++ numbers_where is_exported l.number (drop l.number l.self) ≡ numbers_where is_exported 0 l.self
