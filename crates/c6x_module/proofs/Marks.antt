use Rattle.std.proofs.Common.{◌≡◌, ℕ, ◌+◌, ◌<◌, ◌≤◌, ◌*◌, ◌||◌, Bool, true, false, List, [], ◌∷◌, ◌++◌, length, take, drop, get_or, replicate, refl, sym, ap, ◌∙◌, arith, nat_lt}
use Rattle.std.specs.Prelude.{slice_index_or, nat_le}
use Rattle.std.proofs.lemmas.List.{drop_more, take_more, get_or-replicate, length-replicate}
use Rattle.std.proofs.lemmas.Bool.Decides.{nat_tests}
use Rattle.c6x_spec.specs.Firsts.{◌<|>◌}
use Rattle.c6x_module.specs.declared.field.Field.{Field}
use Rattle.c6x_module.specs.Fields.{AreMarked, is_marked, is_shared, is_taken, is_within, overlap_refusal, overlaps_from}

-- the walk along the fields, one on
pub overlaps_more : (table slots : ℕ) (fs : List Field) (i : ℕ) (d : Field) → i < length fs → overlaps_from table slots (take i fs) (drop i fs) ≡ (overlap_refusal table slots (take i fs) (get_or fs i d) <|> overlaps_from table slots (take (i + 1) fs) (drop (i + 1) fs))
overlaps_more table slots fs i d below =
    ap (overlaps_from table slots (take i fs)) (drop_more fs i d below)
    ∙ ap (λ (xs : List Field). overlap_refusal table slots (take i fs) (get_or fs i d) <|> overlaps_from table slots xs (drop (i + 1) fs)) (sym (take_more fs i d below))

or_swap : (a b c : Bool) → (a || (b || c)) ≡ (b || (a || c))
or_swap true true c = refl
or_swap true false c = refl
or_swap false b c = refl

four : (a b c d e f g h : Bool) → a ≡ e → b ≡ f → c ≡ g → d ≡ h → (a || b || c || d) ≡ (e || f || g || h)
four a b c d e f g h one two three last = cc

-- the four marks are those of the four bytes
pub same_test : (vaddr table slots at p : ℕ) (earlier : List Field) (taken : List Bool) → AreMarked vaddr table slots earlier taken → p ≡ vaddr + at → at + 4 ≤ length taken → (slice_index_or taken at false || slice_index_or taken (at + 1) false || slice_index_or taken (at + 2) false || slice_index_or taken (at + 3) false) ≡ is_shared table slots earlier p
unfolding is_shared
same_test vaddr table slots at p earlier taken m place within =
    let one : (k : ℕ) → k < 4 → slice_index_or taken (at + k) false ≡ is_marked table slots earlier (p + k) =
    λ k less. m.marks (at + k) (omega arith) ∙ ap (λ (n : ℕ). is_marked table slots earlier n) (omega arith) in
    let zero : slice_index_or taken at false ≡ is_marked table slots earlier p = m.marks at (omega arith) ∙ ap (λ (n : ℕ). is_marked table slots earlier n) (sym place) in
    four _ _ _ _ _ _ _ _ zero (one 1 (omega arith)) (one 2 (omega arith)) (one 3 (omega arith))

-- one more field is marked
pub taken_more : (fs : List Field) (f : Field) (byte : ℕ) → is_taken (fs ++ f ∷ []) byte ≡ (is_within f.place 4 byte || is_taken fs byte)
taken_more [] f byte = refl
taken_more (x ∷ xs) f byte = ap (λ t. is_within x.place 4 byte || t) (taken_more xs f byte) ∙ or_swap (is_within x.place 4 byte) (is_within f.place 4 byte) (is_taken xs byte)

same_within : (vaddr at len k p : ℕ) → p ≡ vaddr + at → is_within at len k ≡ is_within p len (vaddr + k)
same_within vaddr at len k p place =
    let one : nat_le at k ≡ nat_le p (vaddr + k) = grind (arith, nat_tests) in
    let two : nat_lt k (at + len) ≡ nat_lt (vaddr + k) (p + len) = grind (arith, nat_tests) in
    rw (one, two) refl

pub field_marked : (vaddr table slots at : ℕ) (earlier : List Field) (f : Field) (taken after : List Bool) → AreMarked vaddr table slots earlier taken → f.place ≡ vaddr + at → length after ≡ length taken → ((k : ℕ) (d : Bool) → k < length taken → slice_index_or after k d ≡ (is_within at 4 k || slice_index_or taken k d)) → AreMarked vaddr table slots (earlier ++ f ∷ []) after
unfolding is_marked
field_marked vaddr table slots at earlier f taken after m place size marks = record {
  marks = λ k less.
      marks k false (omega arith) ∙ ap (λ t. t || slice_index_or taken k false) (same_within vaddr at 4 k f.place place)
      ∙ ap (λ t. is_within f.place 4 (vaddr + k) || t) (m.marks k (omega arith))
      ∙ or_swap (is_within f.place 4 (vaddr + k)) (is_within table (4 * slots) (vaddr + k)) (is_taken earlier (vaddr + k))
      ∙ ap (λ t. is_within table (4 * slots) (vaddr + k) || t) (sym (taken_more earlier f (vaddr + k)));
}

-- at first those of the table are
pub table_marked : (vaddr table slots at size : ℕ) (before after : List Bool) → before ≡ replicate size false → table ≡ vaddr + at → length after ≡ length before → ((k : ℕ) (d : Bool) → k < length before → slice_index_or after k d ≡ (is_within at (4 * slots) k || slice_index_or before k d)) → AreMarked vaddr table slots [] after
unfolding is_marked
table_marked vaddr table slots at size before after clear place len marks = record {
  marks = λ k less.
      let all : length before ≡ size = ap (λ (l : List Bool). length l) clear ∙ length-replicate size false in
      marks k false (omega arith) ∙ ap (λ t. t || slice_index_or before k false) (same_within vaddr at (4 * slots) k table place)
      ∙ ap (λ t. is_within table (4 * slots) (vaddr + k) || t) (ap (λ (l : List Bool). slice_index_or l k false) clear ∙ get_or-replicate size k false false (omega arith));
}
