use Rattle.std.specs.Prelude.{ℕ, List}
use Rattle.c6x_module.specs.Tables.{Tables}
use Rattle.c6x_modules.specs.declared.entry_rows.EntryRows.{EntryRows}

-- The tables of which these are the entries, with their strings.
abbrev pub tables_seen : EntryRows → List ℕ → Tables
tables_seen rows strings = record {
  symbols = rows.symbols.items;
  strings = strings;
  relas = rows.relas.items;
  jumps = rows.jumps.items;
}
