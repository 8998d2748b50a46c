use Rattle.std.proofs.Common.{◌≡◌, take}
use Rattle.std.specs.List.{enumerate_from, flat_map}
use Rattle.c6x_symbols.specs.Entries.{file_entries}
use Rattle.c6x_symbols.proofs.entry_list.entries.Given as goal

abbrev pub invariant-loop-number : goal.invariant-loop-number
invariant-loop-number l = (l.entries.items ≡ flat_map (file_entries l.big) (enumerate_from 0 (take l.number l.objects)))
