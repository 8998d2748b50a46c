-- The fields of a word put together, and taken apart.

use Rattle.std.proofs.Common.{◌≡◌, ℕ, ◌+◌, ◌*◌, ◌/◌, ◌%◌, ◌^◌, ◌<◌, true, ◌&&◌, nat_eq, nat_lt, IsTrue, List, [], ◌∷◌, refl, sym, ◌∙◌, ap, subst, arith}
use Rattle.std.proofs.lemmas.Nat.{pow-add, pow_pos, mod-pow-add, mod_below, mul-add-lt, shr_high, mod_low, field_of}
use Rattle.std.proofs.lemmas.Bool.{and_parts, and_from, ltb-true, lt-ltb, eqb-true, eq-eqb}
use Rattle.std.proofs.Math.Pow.{mod-mod-pow}
use Rattle.c6x_spec.specs.Fields.{bits_of}
use Rattle.c6x_encoding.specs.Spelling.{Part, Slot, Fixed, Named, width, is_part, AreBits}
use Rattle.c6x_encoding.specs.Decoded.{are_bits}
use Rattle.c6x_encoding.specs.Encoded.{fields_of, widths, joined, all_fit}

-- The word's bits are the values of the fields.
abbrev pub AreValues : List (ℕ × ℕ) → ℕ → Type 0
AreValues [] word = Unit {0}
AreValues (field ∷ fields) word = (bits_of word (widths fields) field.0 ≡ field.1) × AreValues fields word

pub widths-fields_of : (slots : List Slot) (parts : Part → ℕ) → widths (fields_of slots parts) ≡ width slots
widths-fields_of [] parts = refl
widths-fields_of (Fixed count value ∷ slots) parts = ap (λ n. count + n) (widths-fields_of slots parts)
widths-fields_of (Named count part ∷ slots) parts = ap (λ n. count + n) (widths-fields_of slots parts)

higher : (word count value rest j : ℕ) (front : ℕ) → front ≡ (word * 2 ^ count + value) * 2 ^ rest + j → front ≡ word * 2 ^ (count + rest) + (value * 2 ^ rest + j)
higher word count value rest j front e = e ∙ rw (pow-add 2 count rest) (omega arith)

-- A number in front of the fields goes up by their widths.
pub joined-from : (fields : List (ℕ × ℕ)) (word : ℕ) → joined word fields ≡ word * 2 ^ widths fields + joined 0 fields
joined-from [] word = omega arith
joined-from (field ∷ fields) word =
    let a = joined-from fields (word * 2 ^ field.0 + field.1) in
    let b = joined-from fields (0 * 2 ^ field.0 + field.1) in
    let c : (0 * 2 ^ field.0 + field.1) * 2 ^ widths fields + joined 0 fields ≡ field.1 * 2 ^ widths fields + joined 0 fields = omega arith in
    higher word field.0 field.1 (widths fields) (joined 0 fields) _ a ∙ ap (λ n. word * 2 ^ (field.0 + widths fields) + n) (sym (b ∙ c))

pub joined_first : (field : ℕ × ℕ) (fields : List (ℕ × ℕ)) → joined 0 (field ∷ fields) ≡ field.1 * 2 ^ widths fields + joined 0 fields
joined_first field fields = joined-from fields (0 * 2 ^ field.0 + field.1) ∙ omega arith

pub joined_below : (fields : List (ℕ × ℕ)) → all_fit fields ≡ true → joined 0 fields < 2 ^ widths fields
joined_below [] fit = omega arith
joined_below (field ∷ fields) fit =
    let both = and_parts (nat_lt field.1 (2 ^ field.0)) _ fit in
    let below : field.1 < 2 ^ field.0 = ltb-true _ _ both.0 in
    let least = mul-add-lt field.1 (2 ^ widths fields) (joined 0 fields) (2 ^ field.0) below (joined_below fields both.1) in
    rw (joined_first field fields, pow-add 2 field.0 (widths fields)) (omega (arith, least))

-- What has the values is the fields put together.
pub values_joined : (fields : List (ℕ × ℕ)) (word : ℕ) → AreValues fields word → word % 2 ^ widths fields ≡ joined 0 fields
values_joined [] word are = omega arith
values_joined (field ∷ fields) word are =
    mod-pow-add word field.0 (widths fields)
    ∙ ap (λ n. n * 2 ^ widths fields + word % 2 ^ widths fields) are.0
    ∙ ap (λ n. field.1 * 2 ^ widths fields + n) (values_joined fields word are.1)
    ∙ sym (joined_first field fields)

pub values_fit : (fields : List (ℕ × ℕ)) (word : ℕ) → AreValues fields word → all_fit fields ≡ true
values_fit [] word are = refl
values_fit (field ∷ fields) word are =
    let below : bits_of word (widths fields) field.0 < 2 ^ field.0 = mod_below _ _ (pow_pos field.0) in
    and_from _ _ (lt-ltb _ _ (subst (λ n. n < 2 ^ field.0) are.0 below)) (values_fit fields word are.1)

-- The fields put together have the values.
pub joined_values : (fields : List (ℕ × ℕ)) (word : ℕ) → all_fit fields ≡ true → word % 2 ^ widths fields ≡ joined 0 fields → AreValues fields word
joined_values [] word fit is = tt
joined_values (field ∷ fields) word fit is =
    let both = and_parts (nat_lt field.1 (2 ^ field.0)) _ fit in
    let below : joined 0 fields < 2 ^ widths fields = joined_below fields both.1 in
    let e : word % 2 ^ (field.0 + widths fields) ≡ field.1 * 2 ^ widths fields + joined 0 fields = is ∙ joined_first field fields in
    let high : word % 2 ^ (field.0 + widths fields) / 2 ^ widths fields ≡ field.1 = ap (λ n. n / 2 ^ widths fields) e ∙ shr_high field.1 (widths fields) (joined 0 fields) below in
    let low : word % 2 ^ (field.0 + widths fields) % 2 ^ widths fields ≡ joined 0 fields = ap (λ n. n % 2 ^ widths fields) e ∙ mod_low field.1 (widths fields) (joined 0 fields) below in
    (sym (field_of word field.0 (widths fields)) ∙ high, joined_values fields word both.1 (sym (mod-mod-pow word field.0 (widths fields)) ∙ low))

pub bits_values : (slots : List Slot) (parts : Part → ℕ) (word : ℕ) → AreBits slots parts word → AreValues (fields_of slots parts) word
bits_values [] parts word are = tt
bits_values (Fixed count value ∷ slots) parts word are =
    (subst (λ n. bits_of word n count ≡ value) (sym (widths-fields_of slots parts)) are.0, bits_values slots parts word are.1)
bits_values (Named count part ∷ slots) parts word are =
    (subst (λ n. bits_of word n count ≡ parts part) (sym (widths-fields_of slots parts)) are.0.0, bits_values slots parts word are.1)

pub values_bits : (slots : List Slot) (parts : Part → ℕ) (word : ℕ) → ((part : Part) → IsTrue (is_part part (parts part))) → AreValues (fields_of slots parts) word → AreBits slots parts word
values_bits [] parts word may are = tt
values_bits (Fixed count value ∷ slots) parts word may are =
    (subst (λ n. bits_of word n count ≡ value) (widths-fields_of slots parts) are.0, values_bits slots parts word may are.1)
values_bits (Named count part ∷ slots) parts word may are =
    ((subst (λ n. bits_of word n count ≡ parts part) (widths-fields_of slots parts) are.0, may part), values_bits slots parts word may are.1)

-- The test of a row, and what it tests.
pub are_bits_true : (slots : List Slot) (parts : Part → ℕ) (word : ℕ) → AreBits slots parts word → are_bits slots parts word ≡ true
are_bits_true [] parts word are = refl
are_bits_true (Fixed count value ∷ slots) parts word are = and_from _ _ (eq-eqb _ _ are.0) (are_bits_true slots parts word are.1)
are_bits_true (Named count part ∷ slots) parts word are =
    and_from _ _ (and_from _ _ (eq-eqb _ _ are.0.0) are.0.1) (are_bits_true slots parts word are.1)

pub true_are_bits : (slots : List Slot) (parts : Part → ℕ) (word : ℕ) → are_bits slots parts word ≡ true → AreBits slots parts word
true_are_bits [] parts word is = tt
true_are_bits (Fixed count value ∷ slots) parts word is =
    let both = and_parts (nat_eq (bits_of word (width slots) count) value) _ is in
    (eqb-true _ _ both.0, true_are_bits slots parts word both.1)
true_are_bits (Named count part ∷ slots) parts word is =
    let both = and_parts (nat_eq (bits_of word (width slots) count) (parts part) && is_part part (parts part)) _ is in
    let first = and_parts (nat_eq (bits_of word (width slots) count) (parts part)) _ both.0 in
    ((eqb-true _ _ first.0, first.1), true_are_bits slots parts word both.1)
