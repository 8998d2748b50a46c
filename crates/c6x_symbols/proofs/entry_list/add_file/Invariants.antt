use Rattle.std.proofs.Common.{◌≡◌, ◌++◌, take}
use Rattle.std.specs.List.{filter, flat_map}
use Rattle.c6x_symbols.specs.Entries.{is_used, table_entries}
use Rattle.c6x_symbols.proofs.entry_list.add_file.Given as goal

abbrev pub invariant-loop-table : goal.invariant-loop-table
invariant-loop-table l = (l.entries.items ≡ l.fn.entries.items ++ flat_map (table_entries l.big l.object l.symbols) (filter (is_used l.sections) (take l.table-index l.sections)))
