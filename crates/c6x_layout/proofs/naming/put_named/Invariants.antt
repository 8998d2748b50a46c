use Rattle.std.proofs.Common.{◌≡◌, ◌++◌, false, drop, length, map}
use Rattle.c6x_elf.specs.EntryRows.{dynamic_rows}
use Rattle.c6x_layout.specs.Tables.{entry, name_places, name_rows}
use Rattle.c6x_layout.proofs.naming.put_named.Given as goal

abbrev pub invariant-loop-name : goal.invariant-loop-name
invariant-loop-name l = record {
  entries : l.out.items ++ dynamic_rows false (map (entry l.tag) (name_places (length l.strings) (drop l.name-index l.names))) ≡ l.fn.out.items ++ dynamic_rows false (map (entry l.tag) (name_places (length l.fn.strings) l.names));
  strings : l.strings ++ name_rows (drop l.name-index l.names) ≡ l.fn.strings ++ name_rows l.names;
}
