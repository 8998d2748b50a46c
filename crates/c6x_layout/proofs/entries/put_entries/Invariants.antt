use Rattle.std.proofs.Common.{◌≡◌, ◌++◌, false, drop}
use Rattle.c6x_elf.specs.EntryRows.{dynamic_rows}
use Rattle.c6x_layout.proofs.entries.put_entries.Given as goal

abbrev pub invariant-loop-entry : goal.invariant-loop-entry
invariant-loop-entry l = l.out.items ++ dynamic_rows false (drop l.entry-index l.entries) ≡ l.fn.out.items ++ dynamic_rows false l.entries
