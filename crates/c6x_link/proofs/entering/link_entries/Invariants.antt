use Rattle.std.proofs.Common.{◌≡◌, take}
use Rattle.std.specs.List.{enumerate_from, flat_map}
use Rattle.c6x_link.specs.LinkEntries.{file_link_entries}
use Rattle.c6x_link.proofs.entering.link_entries.Given as goal

abbrev pub invariant-loop-number : goal.invariant-loop-number
invariant-loop-number l = (l.made.items ≡ flat_map (file_link_entries l.link) (enumerate_from 0 (take l.number l.link.objects)))
