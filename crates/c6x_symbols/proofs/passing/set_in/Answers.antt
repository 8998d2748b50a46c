use Rattle.std.proofs.Common.{◌≢◌, ◌++◌, List, refl, subst, sym, ◌∙◌}
use Rattle.c6x_reloc.specs.Table.{row_of}
use Rattle.c6x_reloc.specs.declared.origin.Origin.TheVariants.{Nothing}
use Rattle.c6x_reloc.specs.declared.field.Field.{Field}
use Rattle.c6x_reloc.specs.FieldBits.{IsPatchedBy}
use Rattle.c6x_symbols.specs.LinkEntries.{error_at}
use Rattle.c6x_symbols.proofs.Walks.{field_is}
use Rattle.c6x_symbols.proofs.passing.set_in.Goals as goal

pub returns-in_default-origin_of : goal.returns-in_default-origin_of
unfolding error_at
returns-in_default-origin_of c =
    let some : (row_of c.in-Some.kind).origin ≢ Nothing = λ e. c.in_default-origin_of.not-Nothing (c.origin_of.ensures ∙ e) in
    let worth = (c.in-Ok.ensures.field c.in-Some.kind c.in-Some.is some).worth in
    record {
      rules = rw c.in-Ok.ensures.rules refl;
      more = λ old fields set.
          let P : List Field → Type 0 = λ gs. IsPatchedBy old (fields ++ gs) c.set_value.new.bytes in
          subst P (sym (field_is c.args.entry.now c.in-Some.kind c.in-Ok.value c.in-Some.is some worth)) (c.set_value.ensures.more old fields set);
    }
