use Rattle.std.proofs.Common.{◌≡◌, ◌++◌, map, take}
use Rattle.c6x_link.specs.LinkEntries.{link_entry}
use Rattle.c6x_link.proofs.entering.add_entries.Given as goal

abbrev pub invariant-loop-entry : goal.invariant-loop-entry
invariant-loop-entry l = (l.made.items ≡ l.fn.made.items ++ map (link_entry l.link l.wanted) (take l.entry-index l.entries))
