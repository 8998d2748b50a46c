use Rattle.std.proofs.Common.{◌≡◌, take}
use Rattle.c6x_symbols.specs.LinkEntries.{dynamic_relas}
use Rattle.c6x_symbols.proofs.relas.dynamic_relas.Given as goal

abbrev pub invariant-loop-entry : goal.invariant-loop-entry
invariant-loop-entry l = l.relas.items ≡ dynamic_relas (take l.entry-index l.entries)
