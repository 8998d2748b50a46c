-- Fields set one after the other.
use Rattle.std.proofs.Common.{◌≡◌, ℕ, ◌+◌, ◌-◌, ◌<◌, ◌≤◌, ◌⊎◌, inl, inr, List, [], ◌∷◌, ◌++◌, length, get_or, take, Option, None, Some, refl, sym, ◌∙◌, ap, subst, arith}
use Rattle.std.specs.Int.{bit_at}
use Rattle.std.proofs.lemmas.Bool.Decides.{nat_tests, leb_tells}
use Rattle.std.proofs.lemmas.List.{take_more}
use Rattle.c6x_spec.specs.Numbers.{bit_in}
use Rattle.c6x_reloc.specs.Fields.{SetsField}
use Rattle.c6x_reloc.specs.declared.field.Field.{Field}
use Rattle.c6x_reloc.specs.FieldBits.{IsPatchedBy, field_bit, last_bit, lowest, or_bit, or_else, width}

pub field_bit_inside : (f : Field) (at i : ℕ) → at ≡ lowest f + i → i < width f → field_bit f at ≡ Some (bit_at f.value i)
unfolding field_bit
field_bit_inside f at i is below =
    let e : at - lowest f ≡ i = omega arith in
    rw e (grind (arith, nat_tests))

pub field_bit_outside : (f : Field) (at : ℕ) → (at < lowest f) ⊎ (lowest f + width f ≤ at) → field_bit f at ≡ None
unfolding field_bit
field_bit_outside f at outside = grind (arith, nat_tests)

-- nothing is set yet
pub none_set : (old : List ℕ) → IsPatchedBy old [] old
none_set old = record { size = refl; bits = λ at. refl }

-- one field is set
pub one_set : (f : Field) (old new : List ℕ) → SetsField old f.place f.kind f.value new → IsPatchedBy old (f ∷ []) new
one_set f old new s = record { size = s.len; bits = bit }
  where
    bit : (at : ℕ) → bit_in new at ≡ or_bit (last_bit (f ∷ []) at) (bit_in old at)
    bit at = elim (leb_tells (lowest f) at) [
      | inr (_, below) ↦ rw (field_bit_outside f at (inl (omega arith))) (s.others at (inl below))
      | inl (_, above) ↦ elim (leb_tells (lowest f + width f) at) [
        | inl (_, behind) ↦ rw (field_bit_outside f at (inr (omega arith))) (s.others at (inr behind))
        | inr (_, within) ↦
            let is : at ≡ lowest f + (at - lowest f) = omega arith in
            let few : at - lowest f < width f = omega arith in
            rw (field_bit_inside f at (at - lowest f) is few)
            (ap (bit_in new) is ∙ s.field (at - lowest f) few)
      ]
    ]

or_else_none : (o : Option ℕ) → or_else o None ≡ o
or_else_none None = refl
or_else_none (Some bit) = refl

or_else_assoc : (a b c : Option ℕ) → or_else (or_else a b) c ≡ or_else a (or_else b c)
or_else_assoc None b c = refl
or_else_assoc (Some bit) b c = refl

pub or_bit_else : (a b : Option ℕ) (was : ℕ) → or_bit a (or_bit b was) ≡ or_bit (or_else a b) was
or_bit_else None b was = refl
or_bit_else (Some bit) b was = refl

-- of two lists the last field that has a bit is the second's, else the first's
pub last_both : (fs gs : List Field) (at : ℕ) → last_bit (fs ++ gs) at ≡ or_else (last_bit gs at) (last_bit fs at)
last_both [] gs at = sym (or_else_none (last_bit gs at))
last_both (f ∷ fs) gs at = rw (last_both fs gs at) (or_else_assoc (last_bit gs at) (last_bit fs at) (field_bit f at))

-- fields set behind fields set
pub patched_then : (old mid new : List ℕ) (fs gs : List Field) → IsPatchedBy old fs mid → IsPatchedBy mid gs new → IsPatchedBy old (fs ++ gs) new
patched_then old mid new fs gs a b = record {
  size = b.size ∙ a.size;
  bits = λ at.
      b.bits at
      ∙ ap (or_bit (last_bit gs at)) (a.bits at)
      ∙ or_bit_else (last_bit gs at) (last_bit fs at) (bit_in old at)
      ∙ ap (λ o. or_bit o (bit_in old at)) (sym (last_both fs gs at));
}

pub one_more : (f : Field) (first old new : List ℕ) (fs : List Field) → SetsField old f.place f.kind f.value new → IsPatchedBy first fs old → IsPatchedBy first (fs ++ f ∷ []) new
one_more f first old new fs s had = patched_then first old new fs (f ∷ []) had (one_set f old new s)

pub more_set : (old mid new : List ℕ) (fs : List Field) (k : ℕ) (d : Field) → k < length fs → IsPatchedBy old (take k fs) mid → IsPatchedBy mid (get_or fs k d ∷ []) new → IsPatchedBy old (take (k + 1) fs) new
more_set old mid new fs k d below a b =
    let P : List Field → Type 0 = λ gs. IsPatchedBy old gs new in
    subst P (sym (take_more fs k d below)) (patched_then old mid new (take k fs) (get_or fs k d ∷ []) a b)

-- a list of fields, split at one whose bit no later one has
pub last_split : (before after : List Field) (f : Field) (at : ℕ) → last_bit after at ≡ None → last_bit (before ++ f ∷ after) at ≡ or_else (field_bit f at) (last_bit before at)
last_split before after f at none =
    last_both before (f ∷ after) at ∙ ap (λ o. or_else (or_else o (field_bit f at)) (last_bit before at)) none
