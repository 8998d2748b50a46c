-- Facts of the fields of a module that was read.
use Rattle.std.proofs.Common.{◌≡◌, ℕ, zero, suc, ◌+◌, ◌*◌, ◌<◌, ◌≤◌, ◌==◌, ◌||◌, Bool, true, false, not, List, [], ◌∷◌, ◌++◌, length, take, get_or, refl, sym, ap, ◌∙◌, append_assoc, append-nil, arith, inl, inr}
use Rattle.std.proofs.lemmas.Bool.Decides.{nat_tests}
use Rattle.std.proofs.lemmas.List.{get_or-take, length-take-le}
use Rattle.std.proofs.lemmas.List.Elements.{All-append}
use Rattle.std.specs.Prelude.{◌⊎◌, None, All, AllPairs, nat_lt, slice_index_or, if◌then◌else◌}
use Rattle.c6x_spec.specs.Firsts.{first_along}
use Rattle.c6x_elf.specs.Attributes.{rela_kind, rela_symbol}
use Rattle.c6x_elf.specs.Types.{Rela}
use Rattle.c6x_elf.specs.declared.segment.Segment.{Segment}
use Rattle.c6x_module.specs.Valid.{FieldsApart}
use Rattle.c6x_module.specs.declared.field.Field.{Field}
use Rattle.c6x_module.specs.declared.module_rule.ModuleRule.TheVariants.{DynamicOutside, TextReloc, FieldOverlap}
use Rattle.c6x_module.specs.Fields.{IsPlaced, field_of, fields_of, is_marked, is_shared, is_taken, is_within, overlap_refusal, overlaps_from, place_refusal}
use Rattle.c6x_module.specs.Shape.{is_inside}
use Rattle.c6x_module.specs.Tables.{number_refusal}
use Rattle.c6x_module.specs.declared.fields.TheConstants.{R_C6000_NONE}
use Rattle.c6x_module.proofs.Through.{both_none, must_holds}
use Rattle.c6x_module.proofs.ValidRanges.{inside_facts}

-- L8
pub places_facts : (range : Segment) (fs : List Field) → first_along (place_refusal range) fs ≡ None → All (IsPlaced range) fs
unfolding place_refusal
places_facts range [] e k d below = absurd (omega arith)
places_facts range (f ∷ fs) e zero d below =
    inside_facts range f.place 4 (must_holds (is_inside range f.place 4) TextReloc f.place (both_none _ _ e).0)
places_facts range (f ∷ fs) e (suc k) d below = places_facts range fs (both_none (place_refusal range f) _ e).1 k d (omega arith)

-- L9: no byte of a field is one of the table or of an earlier field
or_false : (a b : Bool) → (a || b) ≡ false → (a ≡ false) × (b ≡ false)
or_false true b e = absurd (cc)
or_false false b e = (refl, e)

not_true : (a : Bool) → not a ≡ true → a ≡ false
not_true true e = absurd (cc)
not_true false e = refl

overlaps_free : (table slots : ℕ) (earlier fs : List Field) → overlaps_from table slots earlier fs ≡ None → (j : ℕ) (d : Field) → j < length fs → is_shared table slots (earlier ++ take j fs) (slice_index_or fs j d).place ≡ false
unfolding overlap_refusal
overlaps_free table slots earlier [] e j d below = absurd (omega arith)
overlaps_free table slots earlier (f ∷ fs) e zero d below =
    ap (λ (xs : List Field). is_shared table slots xs f.place) (append-nil earlier)
    ∙ not_true _ (must_holds (not (is_shared table slots earlier f.place)) FieldOverlap f.place (both_none _ _ e).0)
overlaps_free table slots earlier (f ∷ fs) e (suc j) d below =
    ap (λ (xs : List Field). is_shared table slots xs (slice_index_or fs j d).place) (sym (append_assoc earlier (f ∷ []) (take j fs)))
    ∙ overlaps_free table slots (earlier ++ f ∷ []) fs (both_none (overlap_refusal table slots earlier f) _ e).1 j d (omega arith)

-- the first and the last byte tell
outside : (a n b : ℕ) → is_within a n b ≡ false → (b < a) ⊎ (a + n ≤ b)
outside a n b e = grind (arith, nat_tests)

off : (a n p : ℕ) → 4 ≤ n → is_within a n p ≡ false → is_within a n (p + 3) ≡ false → (p + 4 ≤ a) ⊎ (a + n ≤ p)
off a n p wide first last =
    elim (outside a n p first) [
      | inl below ↦ elim (outside a n (p + 3) last) [
        | inl before ↦ inl (omega arith)
        | inr behind ↦ inl (absurd (omega arith))
      ]
      | inr behind ↦ inr behind
    ]

taken_out : (fs : List Field) (byte k : ℕ) (d : Field) → is_taken fs byte ≡ false → k < length fs → is_within (slice_index_or fs k d).place 4 byte ≡ false
taken_out [] byte k d e below = absurd (omega arith)
taken_out (f ∷ fs) byte zero d e below = (or_false (is_within f.place 4 byte) _ e).0
taken_out (f ∷ fs) byte (suc k) d e below = taken_out fs byte k d (or_false (is_within f.place 4 byte) _ e).1 (omega arith)

-- the tests of a field's first and last byte
shared_ends : (table slots : ℕ) (earlier : List Field) (p : ℕ) → is_shared table slots earlier p ≡ false → (is_marked table slots earlier p ≡ false) × (is_marked table slots earlier (p + 3) ≡ false)
unfolding is_shared
shared_ends table slots earlier p e =
    let three = or_false (is_marked table slots earlier p || is_marked table slots earlier (p + 1) || is_marked table slots earlier (p + 2)) (is_marked table slots earlier (p + 3)) e in
    let two = or_false (is_marked table slots earlier p || is_marked table slots earlier (p + 1)) (is_marked table slots earlier (p + 2)) three.0 in
    let one = or_false (is_marked table slots earlier p) (is_marked table slots earlier (p + 1)) two.0 in
    (one.0, three.1)

table_out : (table slots : ℕ) (earlier : List Field) (byte : ℕ) → is_marked table slots earlier byte ≡ false → (is_within table (4 * slots) byte ≡ false) × (is_taken earlier byte ≡ false)
unfolding is_marked
table_out table slots earlier byte e = or_false (is_within table (4 * slots) byte) (is_taken earlier byte) e

pub off_table_facts : (table slots : ℕ) (fs : List Field) → 1 ≤ slots → overlaps_from table slots [] fs ≡ None → (k : ℕ) (d : Field) → k < length fs → ((slice_index_or fs k d).place + 4 ≤ table) ⊎ (table + 4 * slots ≤ (slice_index_or fs k d).place)
off_table_facts table slots fs some e k d below =
    let p = (slice_index_or fs k d).place in
    let ends = shared_ends table slots (take k fs) p (overlaps_free table slots [] fs e k d below) in
    off table (4 * slots) p (omega arith) (table_out table slots (take k fs) p ends.0).0 (table_out table slots (take k fs) (p + 3) ends.1).0

swap_sides : (a b : ℕ) → (b + 4 ≤ a) ⊎ (a + 4 ≤ b) → (a + 4 ≤ b) ⊎ (b + 4 ≤ a)
swap_sides a b (inl x) = inr x
swap_sides a b (inr x) = inl x

pub apart_fields : (table slots : ℕ) (fs : List Field) → overlaps_from table slots [] fs ≡ None → AllPairs FieldsApart fs
apart_fields table slots fs e i j d less below =
    let p = (slice_index_or fs j d).place in
    let ends = shared_ends table slots (take j fs) p (overlaps_free table slots [] fs e j d below) in
    let inside : i < length (take j fs) = rw (length-take-le j fs (omega arith)) less in
    let same : get_or (take j fs) i d ≡ get_or fs i d = get_or-take j fs i d less in
    let first = taken_out (take j fs) p i d (table_out table slots (take j fs) p ends.0).1 inside in
    let last = taken_out (take j fs) (p + 3) i d (table_out table slots (take j fs) (p + 3) ends.1).1 inside in
    swap_sides (slice_index_or fs i d).place p (off (slice_index_or fs i d).place 4 p (omega arith) (rw same at first) (rw same at last))

-- the symbols of the fields
pub record IsKnown (count : ℕ) (f : Field) : Type 0 where
  pub symbol : (f.symbol ≡ 0) ⊎ (f.symbol < count)

known : (number count : ℕ) → (number == 0 || nat_lt number count) ≡ true → (number ≡ 0) ⊎ (number < count)
known number count t = grind (arith, nat_tests)

known_head : (count : ℕ) (r : Rela) (fs : List Field) → (rela_symbol r == 0 || nat_lt (rela_symbol r) count) ≡ true → All (IsKnown count) fs → All (IsKnown count) (field_of r ∷ fs)
unfolding field_of
known_head count r fs t rest zero d below = record { symbol = known (rela_symbol r) count t }
known_head count r fs t rest (suc k) d below = rest k d (omega arith)

known_more : (count : ℕ) (r : Rela) (fs : List Field) (none : Bool) → (rela_symbol r == 0 || nat_lt (rela_symbol r) count) ≡ true → All (IsKnown count) fs → All (IsKnown count) (if none then fs else field_of r ∷ fs)
known_more count r fs true t rest = rest
known_more count r fs false t rest = known_head count r fs t rest

numbers_known : (tag count : ℕ) (rs : List Rela) → first_along (number_refusal tag count) rs ≡ None → All (IsKnown count) (fields_of rs)
unfolding number_refusal
numbers_known tag count [] e k d below = absurd (omega arith)
numbers_known tag count (r ∷ rs) e k d below =
    known_more count r (fields_of rs) (rela_kind r == R_C6000_NONE)
    (must_holds (rela_symbol r == 0 || nat_lt (rela_symbol r) count) DynamicOutside tag (both_none _ _ e).0)
    (numbers_known tag count rs (both_none (number_refusal tag count r) _ e).1)
    k d below

fields_cases : (r : Rela) (rest more : List Field) (none : Bool) → (if none then rest ++ more else field_of r ∷ (rest ++ more)) ≡ (if none then rest else field_of r ∷ rest) ++ more
fields_cases r rest more true = refl
fields_cases r rest more false = refl

fields_append : (rs js : List Rela) → fields_of (rs ++ js) ≡ fields_of rs ++ fields_of js
fields_append [] js = refl
fields_append (r ∷ rs) js =
    ap (λ (xs : List Field). if rela_kind r == R_C6000_NONE then xs else field_of r ∷ xs) (fields_append rs js)
    ∙ fields_cases r (fields_of rs) (fields_of js) (rela_kind r == R_C6000_NONE)

pub fields_known : (first second count : ℕ) (rs js : List Rela) → first_along (number_refusal first count) rs ≡ None → first_along (number_refusal second count) js ≡ None → All (IsKnown count) (fields_of (rs ++ js))
fields_known first second count rs js one two =
    rw (fields_append rs js) (All-append (IsKnown count) (fields_of rs) (fields_of js) (numbers_known first count rs one) (numbers_known second count js two))
