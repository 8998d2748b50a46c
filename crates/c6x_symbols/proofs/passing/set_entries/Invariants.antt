use Rattle.std.proofs.Common.{◌≡◌, take, drop}
use Rattle.c6x_reloc.specs.FieldBits.{IsPatchedBy}
use Rattle.c6x_symbols.specs.LinkEntries.{data_fields, entries_error, text_fields}
use Rattle.c6x_symbols.proofs.passing.set_entries.Given as goal

abbrev pub invariant-loop-entry : goal.invariant-loop-entry
invariant-loop-entry l = record {
  rules : entries_error (drop l.entry-index l.entries) ≡ entries_error l.entries;
  text : IsPatchedBy l.fn.text (text_fields (take l.entry-index l.entries)) l.text;
  content : IsPatchedBy l.fn.content (data_fields (take l.entry-index l.entries)) l.content;
}
