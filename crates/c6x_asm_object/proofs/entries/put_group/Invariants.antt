use Rattle.std.proofs.Common.{◌≡◌, ◌+◌, ◌++◌, false, drop}
use Rattle.c6x_elf.specs.EntryRows.{symbol_rows}
use Rattle.c6x_asm_object.specs.FormSymbols.{name_entries}
use Rattle.c6x_asm_object.specs.Symbols.{names_total}
use Rattle.c6x_asm_object.specs.FileNames.{group}
use Rattle.c6x_asm_object.proofs.entries.put_group.Given as goal

abbrev pub invariant-loop-symbol : goal.invariant-loop-symbol
invariant-loop-symbol l = record {
  made : l.bytes.items ++ symbol_rows false (name_entries l.text l.next (group l.local (drop l.symbol-index l.symbols))) ≡ l.initial.bytes.items ++ symbol_rows false (name_entries l.text l.name (group l.local l.symbols));
  names : l.next + names_total l.text (group l.local (drop l.symbol-index l.symbols)) ≡ l.name + names_total l.text (group l.local l.symbols);
}
