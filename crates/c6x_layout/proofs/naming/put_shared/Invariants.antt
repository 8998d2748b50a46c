use Rattle.std.proofs.Common.{◌≡◌, ◌++◌, false, drop, length}
use Rattle.c6x_elf.specs.EntryRows.{symbol_rows}
use Rattle.c6x_layout.specs.Tables.{name_rows, shared_names, shared_symbols}
use Rattle.c6x_layout.proofs.naming.put_shared.Given as goal

abbrev pub invariant-loop-symbol : goal.invariant-loop-symbol
invariant-loop-symbol l = record {
  symbols : l.out.items ++ symbol_rows false (shared_symbols (length l.strings) (drop l.symbol-index l.shared)) ≡ l.fn.out.items ++ symbol_rows false (shared_symbols (length l.fn.strings) l.shared);
  strings : l.strings ++ name_rows (shared_names (drop l.symbol-index l.shared)) ≡ l.fn.strings ++ name_rows (shared_names l.shared);
}
