use Rattle.std.proofs.Common.{List, ◌++◌, subst, sym}
use Rattle.std.specs.Prelude.{OnOk, ℕ}
use Rattle.c6x_reloc.specs.FieldBits.{IsPatchedBy}
use Rattle.c6x_reloc.specs.declared.field.Field.{Field}
use Rattle.c6x_symbols.proofs.Walks.{data_is, text_is}
use Rattle.c6x_symbols.proofs.passing.set_entry.Goals as goal

pub returns-then-entry-clause-text : goal.returns-then-entry-clause-text
returns-then-entry-clause-text c =
    let P : List Field → Type 0 = λ gs. OnOk c.set_in.result ((old : List ℕ) (fields : List Field) → IsPatchedBy old fields c.args.text.now → IsPatchedBy old (fields ++ gs) c.set_in.new.bytes) in
    subst P (sym (text_is c.args.entry.now c.if-entry.true)) c.set_in.ensures.more

pub returns-else-entry-clause-content : goal.returns-else-entry-clause-content
returns-else-entry-clause-content c =
    let P : List Field → Type 0 = λ gs. OnOk c.set_in-else-entry.result ((old : List ℕ) (fields : List Field) → IsPatchedBy old fields c.args.content.now → IsPatchedBy old (fields ++ gs) c.set_in-else-entry.new.bytes) in
    subst P (sym (data_is c.args.entry.now c.if-entry.false)) c.set_in-else-entry.ensures.more
