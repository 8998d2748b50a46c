-- The word of an instruction outside a packet is its word with bit 0 clear.
use Rattle.std.proofs.Common.{◌≡◌, ℕ, suc, zero, ◌+◌, ◌-◌, ◌/◌, ◌%◌, ◌^◌, ◌≤◌, inl, inr, Bool, true, false, ◌&&◌, ◌||◌, eqb, List, [], ◌∷◌, refl, sym, ◌∙◌, ap, arith}
use Rattle.std.proofs.Math.Nat.{div-div-eq-div-mul, pow-succ'}
use Rattle.std.proofs.lemmas.Bool.{and_parts, eqb-true, true≢false}
use Rattle.c6x_spec.specs.Fields.{bits_of}
use Rattle.c6x_encoding.specs.Spelling.{AreBits, Fixed, IsRow, Named, Part, Row, Slot, Spells, part_of, table, width, Chained}
use Rattle.c6x_encoding.specs.declared.instr.Instr.{Instr}

abbrev pub cleared : Instr → Instr
cleared i = record { condition = i.condition; op = i.op; chained = false }

abbrev is_other : Part → Bool
is_other Chained = false
is_other _ = true

abbrev is_last : ℕ → Part → List Slot → Bool
is_last count Chained [] = eqb count 1
is_last count _ _ = false

-- the p bit is the last one, and stands nowhere else
abbrev ends_chained : List Slot → Bool
ends_chained [] = false
ends_chained (Fixed count value ∷ slots) = ends_chained slots
ends_chained (Named count part ∷ slots) = is_last count part slots || (is_other part && ends_chained slots)

abbrev all_end : List Row → Bool
all_end [] = true
all_end (row ∷ rows) = ends_chained row.slots && all_end rows

table_ends : all_end table ≡ true
table_ends = refl

row_ends : (rows : List Row) (row : Row) → all_end rows ≡ true → IsRow rows row → ends_chained row.slots ≡ true
row_ends [] row all listed = absurd listed
row_ends (first ∷ rows) row all (inl same) = ap (λ (r : Row). ends_chained r.slots) same ∙ (and_parts (ends_chained first.slots) (all_end rows) all).0
row_ends (first ∷ rows) row all (inr listed) = row_ends rows row (and_parts (ends_chained first.slots) (all_end rows) all).1 listed

last_is : (count : ℕ) (part : Part) (slots : List Slot) → is_last count part slots ≡ true → (count ≡ 1) × (part ≡ Chained) × (slots ≡ [])
last_is count Chained [] is = (eqb-true count 1 is, refl, refl)
last_is count Chained (slot ∷ slots) is = absurd (true≢false (sym is))
last_is count _ slots is = absurd (true≢false (sym is))

other_part : (i : Instr) (part : Part) → is_other part ≡ true → part_of (cleared i) part ≡ part_of i part
other_part i Chained is = absurd (true≢false (sym is))
other_part i _ is = refl

some_bits : (slots : List Slot) → ends_chained slots ≡ true → 1 ≤ width slots
some_bits [] is = absurd (true≢false (sym is))
some_bits (Fixed count value ∷ slots) is = omega (arith, some_bits slots is)
some_bits (Named count part ∷ slots) is = either (λ ends. some_bits slots ends) (is_last count part slots) refl is
  where
    either : (ends_chained slots ≡ true → 1 ≤ width slots) → (b : Bool) → is_last count part slots ≡ b → (b || (is_other part && ends_chained slots)) ≡ true → 1 ≤ count + width slots
    either before true last is = omega (arith, (last_is count part slots last).0)
    either before false last is = omega (arith, before (and_parts (is_other part) (ends_chained slots) is).1)

high_same : (word low : ℕ) → 1 ≤ low → (word - word % 2) / 2 ^ low ≡ word / 2 ^ low
high_same word zero some = absurd (omega arith)
high_same word (suc low) some =
    let half : (word - word % 2) / 2 ≡ word / 2 = omega arith in
    rw (pow-succ' 2 low, ← div-div-eq-div-mul (word - word % 2) 2 (2 ^ low), ← div-div-eq-div-mul word 2 (2 ^ low), half) refl

bits_same : (word low count : ℕ) → 1 ≤ low → bits_of (word - word % 2) low count ≡ bits_of word low count
bits_same word low count some = ap (λ n. n % 2 ^ count) (high_same word low some)

even_bits : (i : Instr) (word : ℕ) (slots : List Slot) → ends_chained slots ≡ true → AreBits slots (part_of i) word → AreBits slots (part_of (cleared i)) (word - word % 2)
even_bits i word [] is are = tt
even_bits i word (Fixed count value ∷ slots) is are =
    (bits_same word (width slots) count (some_bits slots is) ∙ are.0, even_bits i word slots is are.1)
even_bits i word (Named count part ∷ slots) is are = either (λ ends. even_bits i word slots ends are.1) (is_last count part slots) refl is
  where
    low : (word - word % 2) / 2 ^ 0 % 2 ^ 1 ≡ 0
    low = omega arith

    either : (ends_chained slots ≡ true → AreBits slots (part_of (cleared i)) (word - word % 2)) → (b : Bool) → is_last count part slots ≡ b → (b || (is_other part && ends_chained slots)) ≡ true → AreBits (Named count part ∷ slots) (part_of (cleared i)) (word - word % 2)
    either before true last is =
        let same = last_is count part slots last in
        rw (same.0, same.1, same.2) ((low, refl), tt)
    either before false last is =
        let both = and_parts (is_other part) (ends_chained slots) is in
        let kept : part_of (cleared i) part ≡ part_of i part = other_part i part both.0 in
        ((bits_same word (width slots) count (some_bits slots both.1) ∙ are.0.0 ∙ sym kept, rw kept are.0.1), before both.1)

pub even_spells : (i : Instr) (word : ℕ) → Spells i word → Spells (cleared i) (word - word % 2)
even_spells i word s = record {
  fits = omega (arith, s.fits);
  row = s.row;
  listed = s.listed;
  form = s.form;
  bits = even_bits i word s.row.slots (row_ends table s.row table_ends s.listed) s.bits;
}

pub even_twice : (word : ℕ) → word - word % 2 - (word - word % 2) % 2 ≡ word - word % 2
even_twice word = omega arith
