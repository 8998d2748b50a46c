use Rattle.std.proofs.Common.{◌≡◌, ◌+◌, ◌-◌, ◌++◌, false}
use Rattle.c6x_elf.specs.EntryRows.{symbol_rows}
use Rattle.c6x_asm_object.specs.FormSymbols.{section_entries}
use Rattle.c6x_asm_object.proofs.entries.put_sections.Given as goal

abbrev pub invariant-loop-i : goal.invariant-loop-i
invariant-loop-i l = l.bytes.items ++ symbol_rows false (section_entries (l.i + 1) (l.count - l.i)) ≡ l.initial.bytes.items ++ symbol_rows false (section_entries 1 l.count)
