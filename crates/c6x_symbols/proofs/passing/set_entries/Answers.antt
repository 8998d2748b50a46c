use Rattle.std.proofs.Common.{◌<◌, List, length, take, drop, ◌+◌, ◌∙◌, ap, subst, sym, arith}
use Rattle.c6x_reloc.specs.declared.field.Field.{Field}
use Rattle.c6x_reloc.specs.FieldBits.{IsPatchedBy}
use Rattle.c6x_symbols.specs.LinkEntries.{data_fields, entries_error, text_fields}
use Rattle.c6x_symbols.specs.EntryRules.{◌<|>◌}
use Rattle.c6x_symbols.proofs.Walks.{data_more, errors_drop, text_more}
use Rattle.c6x_symbols.proofs.passing.set_entries.Goals as goal

pub loop-entry-preserved : goal.loop-entry-preserved
loop-entry-preserved c =
    let below : c.loop-entry.entry-index < length c.args.entries.now = omega arith in
    let T : List Field → Type 0 = λ gs. IsPatchedBy c.args.text.now gs c.set_entry.new.text in
    let D : List Field → Type 0 = λ gs. IsPatchedBy c.args.content.now gs c.set_entry.new.content in
    record {
      rules =
          sym (errors_drop c.args.entries.now c.loop-entry.entry-index _ below ∙ ap (λ r. r <|> entries_error (drop (c.loop-entry.entry-index + 1) c.args.entries.now)) c.in_ok-set_entry.ensures.rules)
          ∙ c.loop-entry.invariant.rules;
      text = subst T (sym (text_more c.args.entries.now c.loop-entry.entry-index _ below)) (c.in_ok-set_entry.ensures.text c.args.text.now (text_fields (take c.loop-entry.entry-index c.args.entries.now)) c.loop-entry.invariant.text);
      content = subst D (sym (data_more c.args.entries.now c.loop-entry.entry-index _ below)) (c.in_ok-set_entry.ensures.content c.args.content.now (data_fields (take c.loop-entry.entry-index c.args.entries.now)) c.loop-entry.invariant.content);
    }
