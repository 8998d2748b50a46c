use Rattle.std.proofs.Common.{◌≡◌, ◌++◌, map, take}
use Rattle.c6x_symbols.specs.Entries.{entry_of}
use Rattle.c6x_symbols.proofs.entry_list.add_relas.Given as goal

abbrev pub invariant-loop-rela : goal.invariant-loop-rela
invariant-loop-rela l = (l.entries.items ≡ l.fn.entries.items ++ map (entry_of l.object l.section) (take l.rela-index l.relas))
