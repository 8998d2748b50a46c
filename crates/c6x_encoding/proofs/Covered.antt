-- The tests that lead a word to a form, and what they leave, say every fixed bit of the form's row.

use Rattle.std.proofs.Common.{◌≡◌, ℕ, zero, suc, ◌+◌, ◌-◌, ◌*◌, ◌/◌, ◌%◌, ◌^◌, ◌≤◌, ◌<◌, inl, inr, Bool, true, false, ◌&&◌, ◌||◌, nat_eq, nat_le, nat_lt, IsTrue, List, [], ◌∷◌, ◌++◌, Option, Some, None, refl, sym, ◌∙◌, ap, subst, arith, add-one}
use Rattle.std.proofs.lemmas.Nat.{shr-shr, mod-pow-add}
use Rattle.std.proofs.lemmas.Bool.{and_parts, and_from, or_cases, leb-true, ltb-true, eqb-true, cases_Bool, cond-true, cond-false}
use Rattle.c6x_spec.specs.Fields.{bits_of}
use Rattle.c6x_encoding.specs.declared.form.Form.{Form}
use Rattle.c6x_encoding.specs.Spelling.{Part, Slot, Fixed, Named, width, is_part, AreBits}
use Rattle.c6x_encoding.specs.Encoded.{slots_for, l_code, s_code, d_code, m_code}
use Rattle.c6x_encoding.specs.Groups.{Tree, Gives, Nothing, Test, form_by, tree, even_tree, constant_tree, displacement_tree, l_tree, s_tree, d_tree, m_tree}
use Rattle.c6x_encoding.specs.Left.{Bits, all_hold, left_bits}
use Rattle.c6x_encoding.proofs.Trees.{bits-within}

-- One of the tests says the bit at a place.
abbrev bit_by : List Bits → ℕ → ℕ → Bool
bit_by [] place bit = false
bit_by (t ∷ tests) place bit =
    (nat_le t.low place && (nat_le (place + 1) (t.low + t.count) && nat_eq (bits_of t.value (place - t.low) 1) bit)) || bit_by tests place bit

-- The tests say each of the bits from a place on.
abbrev bits_by : List Bits → ℕ → ℕ → ℕ → Bool
bits_by tests low zero value = nat_eq value 0
bits_by tests low (suc count) value = bit_by tests low (value % 2) && bits_by tests (low + 1) count (value / 2)

-- The tests say each fixed bit of the slots.
abbrev pub are_covered : List Slot → List Bits → Bool
are_covered [] tests = true
are_covered (Fixed count value ∷ slots) tests = bits_by tests (width slots) count value && are_covered slots tests
are_covered (Named count part ∷ slots) tests = are_covered slots tests

abbrev row_covered : Option (List Slot) → List Bits → Bool
row_covered None tests = false
row_covered (Some slots) tests = are_covered slots tests

-- On each way through the groups, after these tests.
abbrev ways_covered : Tree → List Bits → Bool
ways_covered (Gives form) tests = row_covered (slots_for form) (tests ++ left_bits form)
ways_covered Nothing tests = true
ways_covered (Test low count value met other) tests =
    ways_covered met (record { low = low; count = count; value = value } ∷ tests) && ways_covered other tests

tree_covered : ways_covered tree [] ≡ true
unfolding tree even_tree constant_tree displacement_tree l_tree s_tree d_tree m_tree l_code s_code d_code m_code
tree_covered = refl

-- The tests that a word has met on its way.
record Way (form : Form) (word : ℕ) : Type 0 where
  met : List Bits
  hold : all_hold met word ≡ true
  covered : row_covered (slots_for form) (met ++ left_bits form) ≡ true

way : (t : Tree) (tests : List Bits) (word : ℕ) (form : Form) → ways_covered t tests ≡ true → all_hold tests word ≡ true → form_by t word ≡ Some form → Way form word
way (Gives given) tests word form covered hold is =
    let same : given ≡ form = cc in
    record { met = tests; hold = hold; covered = subst (λ (f : Form). row_covered (slots_for f) (tests ++ left_bits f) ≡ true) same covered }
way Nothing tests word form covered hold is = cc
way (Test low count value met other) tests word form covered hold is =
    let both = and_parts (ways_covered met (record { low = low; count = count; value = value } ∷ tests)) _ covered in
    elim (cases_Bool (nat_eq (bits_of word low count) value)) [
      | inl e ↦ way met (record { low = low; count = count; value = value } ∷ tests) word form both.0 (and_from _ _ e hold) (sym (cond-true _ (form_by met word) (form_by other word) e) ∙ is)
      | inr e ↦ way other tests word form both.1 hold (sym (cond-false _ (form_by met word) (form_by other word) e) ∙ is)
    ]

held_both : (a b : List Bits) (word : ℕ) → all_hold a word ≡ true → all_hold b word ≡ true → all_hold (a ++ b) word ≡ true
held_both [] b word ha hb = hb
held_both (t ∷ a) b word ha hb =
    let both = and_parts (nat_eq (bits_of word t.low t.count) t.value) _ ha in
    and_from _ _ both.0 (held_both a b word both.1 hb)

bit_held : (tests : List Bits) (word place bit : ℕ) → bit_by tests place bit ≡ true → all_hold tests word ≡ true → bits_of word place 1 ≡ bit
bit_held [] word place bit is hold = cc
bit_held (t ∷ tests) word place bit is hold =
    let held = and_parts (nat_eq (bits_of word t.low t.count) t.value) _ hold in
    elim (or_cases (nat_le t.low place && (nat_le (place + 1) (t.low + t.count) && nat_eq (bits_of t.value (place - t.low) 1) bit)) _ is) [
      | inl e ↦
          let one = and_parts (nat_le t.low place) _ e in
          let two = and_parts (nat_le (place + 1) (t.low + t.count)) _ one.1 in
          let above : t.low ≤ place = leb-true _ _ one.0 in
          let below : place + 1 ≤ t.low + t.count = leb-true _ _ two.0 in
          let at : t.low + (place - t.low) ≡ place = omega arith in
          let within : bits_of word (t.low + (place - t.low)) 1 ≡ bits_of t.value (place - t.low) 1 = bits-within word t.low t.count (place - t.low) 1 t.value (omega arith) (eqb-true _ _ held.0) in
          subst (λ p. bits_of word p 1 ≡ bits_of t.value (place - t.low) 1) at within ∙ eqb-true _ _ two.1
      | inr e ↦ bit_held tests word place bit e held.1
    ]

-- A field from its lowest bit up.
lowest_first : (word low count : ℕ) → bits_of word low (suc count) ≡ bits_of word low 1 + 2 * bits_of word (low + 1) count
lowest_first word low count =
    let parts : word / 2 ^ low % 2 ^ (count + 1) ≡ (word / 2 ^ low / 2 ^ 1 % 2 ^ count) * 2 ^ 1 + word / 2 ^ low % 2 ^ 1 = mod-pow-add (word / 2 ^ low) count 1 in
    let high : word / 2 ^ low / 2 ^ 1 % 2 ^ count ≡ word / 2 ^ (low + 1) % 2 ^ count = ap (λ n. n % 2 ^ count) (shr-shr word low 1) in
    ap (λ n. word / 2 ^ low % 2 ^ n) (sym (add-one count)) ∙ parts ∙ omega (arith, high)

bits_held : (tests : List Bits) (word low count value : ℕ) → bits_by tests low count value ≡ true → all_hold tests word ≡ true → bits_of word low count ≡ value
bits_held tests word low zero value is hold =
    let none : value ≡ 0 = eqb-true _ _ is in
    omega (arith, none)
bits_held tests word low (suc count) value is hold =
    let both = and_parts (bit_by tests low (value % 2)) _ is in
    let a : bits_of word low 1 ≡ value % 2 = bit_held tests word low (value % 2) both.0 hold in
    let b : bits_of word (low + 1) count ≡ value / 2 = bits_held tests word (low + 1) count (value / 2) both.1 hold in
    lowest_first word low count ∙ ap (λ n. n + 2 * bits_of word (low + 1) count) a ∙ ap (λ n. value % 2 + 2 * n) b ∙ omega arith

-- The named fields of the word hold these parts, which they may.
abbrev pub AreParts : List Slot → (Part → ℕ) → ℕ → Type 0
AreParts [] parts word = Unit {0}
AreParts (Fixed count value ∷ slots) parts word = AreParts slots parts word
AreParts (Named count part ∷ slots) parts word =
    ((bits_of word (width slots) count ≡ parts part) × IsTrue (is_part part (parts part))) × AreParts slots parts word

covered_bits : (slots : List Slot) (tests : List Bits) (parts : Part → ℕ) (word : ℕ) → are_covered slots tests ≡ true → all_hold tests word ≡ true → AreParts slots parts word → AreBits slots parts word
covered_bits [] tests parts word covered hold are = tt
covered_bits (Fixed count value ∷ slots) tests parts word covered hold are =
    let both = and_parts (bits_by tests (width slots) count value) _ covered in
    (bits_held tests word (width slots) count value both.0 hold, covered_bits slots tests parts word both.1 hold are)
covered_bits (Named count part ∷ slots) tests parts word covered hold are =
    (are.0, covered_bits slots tests parts word covered hold are.1)

-- A word that the groups lead to a form, with what they leave, has the fixed bits of the form's row.
pub led_bits : (form : Form) (slots : List Slot) (parts : Part → ℕ) (word : ℕ) → form_by tree word ≡ Some form → slots_for form ≡ Some slots → all_hold (left_bits form) word ≡ true → AreParts slots parts word → AreBits slots parts word
led_bits form slots parts word is known left are =
    let w = way tree [] word form tree_covered refl is in
    let covered : are_covered slots (w.met ++ left_bits form) ≡ true = subst (λ (o : Option (List Slot)). row_covered o (w.met ++ left_bits form) ≡ true) known w.covered in
    covered_bits slots (w.met ++ left_bits form) parts word covered (held_both w.met (left_bits form) word w.hold left) are

-- Such a form has a row.
pub led_row : (form : Form) (word : ℕ) → form_by tree word ≡ Some form → slots_for form ≡ None → ⊥
led_row form word is none =
    let w = way tree [] word form tree_covered refl is in
    let never : false ≡ true = subst (λ (o : Option (List Slot)). row_covered o (w.met ++ left_bits form) ≡ true) none w.covered in
    cc
