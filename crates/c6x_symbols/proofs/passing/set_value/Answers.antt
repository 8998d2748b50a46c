use Rattle.std.proofs.Common.{ℕ, ◌+◌, [], ◌∷◌, ◌++◌, subst}
use Rattle.c6x_reloc.specs.FieldBits.{IsPatchedBy}
use Rattle.c6x_symbols.proofs.passing.set_value.Goals as goal

pub returns-clause-more : goal.returns-clause-more
returns-clause-more c = λ old fields set.
    let P : ℕ → Type 0 = λ v. IsPatchedBy old (fields ++ record { place = c.args.entry.now.at + c.args.entry.now.reference.offset; kind = c.args.kind; value = v } ∷ []) c.set_field.new.bytes in
    subst P c.shown-value.ensures.is (c.set_field.ensures.more old fields set)
