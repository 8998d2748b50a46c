-- The digits of a number are read as that number, and a register's name as that register.
use Rattle.std.proofs.Common.{◌≡◌, ℕ, suc, zero, ◌+◌, ◌*◌, ◌^◌, ◌<◌, Bool, true, false, ◌&&◌, eqb, ap, List, [], ◌∷◌, length, Some, refl, sym, ◌∙◌, arith, ⊎_elim}
use Rattle.std.proofs.lemmas.Bool.{and_parts, cases_eq, eqb-true, le-leb, lt-ltb, le-ltb, ne_eqb, true≢false}
use Rattle.std.proofs.lemmas.Fmt.{decimal_is_IsNumeral}
use Rattle.std.proofs.lemmas.Str.Parse.{digit_from_value}
use Rattle.std.specs.Char.{digit_value}
use Rattle.std.specs.Fmt.{digits}
use Rattle.std.specs.List.{list_all}
use Rattle.std.specs.Prelude.{decimal}
use Rattle.std.specs.Str.Parse.{AllDigits, digits_value_after}
use Rattle.c6x_base.specs.declared.side.Side.{Side}
use Rattle.c6x_base.specs.declared.side.Side.TheVariants.{A, B}
use Rattle.c6x_lex.specs.Forms.{is_digit}
use Rattle.c6x_asm_lines.specs.Lexemes.{class_of, digit_of, digits_from, digits_value, number_of, register_of}
use Rattle.c6x_asm_lines.specs.declared.register.Register.{Register}
use Rattle.c6x_asm_lines.specs.declared.word.WordClass.{WordClass}
use Rattle.c6x_asm_lines.specs.declared.word.WordClass.TheVariants.{Register as RegisterClass}
use Rattle.c6x_asm_lines.specs.OperandValues.{same_side}
use Rattle.c6x_dis.specs.Pieces.{is_decimal, is_word}
use Rattle.c6x_dis.specs.Shown.{register_word}

digit_is : (b : ℕ) → digit_value b < 10 → is_digit b ≡ true
digit_is b small = let d = digit_from_value b small in rw (le-leb 48 b d.0, le-leb b 57 d.1) refl

digit_same : (b : ℕ) → digit_value b < 10 → digit_of b ≡ digit_value b
digit_same b small = let d = digit_from_value b small in rw (le-leb 48 b d.0, le-leb b 57 d.1, le-ltb b 48 d.0, lt-ltb b 58 (omega (arith, d.1))) refl

digits_same : (n : ℕ) (bs : List ℕ) → AllDigits 10 bs → digits_from 10 n bs ≡ digits_value_after 10 n bs
digits_same n [] all = refl
digits_same n (b ∷ bs) all = rw (digit_same b all.0) (digits_same (n * 10 + digit_value b) bs all.1)

-- decimal digits have no `x` in the second place
digits_number : (bs : List ℕ) → AllDigits 10 bs → number_of bs ≡ digits_value 10 bs
unfolding number_of
digits_number [] all = refl
digits_number (a ∷ []) all = refl
digits_number (a ∷ x ∷ ds) all = let d = digit_from_value x all.1.0 in rw (ne_eqb x 120 (λ e. omega (arith, d.0, d.1))) refl

pub number_of_decimal : (n : ℕ) → n < 2 ^ 32 → number_of (decimal n) ≡ Some n
unfolding digits_value
number_of_decimal n small =
    let k = decimal_is_IsNumeral n (omega arith) in
    digits_number (decimal n) k.0.1 ∙ rw (digits_same 0 (decimal n) k.0.1, k.1, lt-ltb n (2 ^ 32) small) refl

all_digits : (bs : List ℕ) → AllDigits 10 bs → list_all is_digit bs ≡ true
all_digits [] all = refl
all_digits (b ∷ bs) all = rw (digit_is b all.0, all_digits bs all.1) refl

some_digits : (bs : List ℕ) → 0 < length bs → AllDigits 10 bs → is_decimal bs ≡ true
some_digits [] some all = absurd (omega arith)
some_digits (b ∷ bs) some all = rw (digit_is b all.0, all_digits bs all.1) refl

pub decimal_token : (n : ℕ) → n < 2 ^ 32 → is_decimal (decimal n) ≡ true
decimal_token n small =
    let k = decimal_is_IsNumeral n (omega arith) in
    some_digits (decimal n) k.0.0 k.0.1

all_below : ℕ → (ℕ → Bool) → Bool
all_below zero p = true
all_below (suc n) p = p n && all_below n p

from_all : (n : ℕ) (p : ℕ → Bool) (k : ℕ) → all_below n p ≡ true → k < n → p k ≡ true
unfolding all_below
from_all zero p k all below = absurd (omega arith)
from_all (suc n) p k all below =
    ⊎_elim
    (λ same. ap p same ∙ (and_parts (p n) (all_below n p) all).0)
    (λ differs. from_all n p k (and_parts (p n) (all_below n p) all).1 (omega arith))
    (cases_eq k n)

abbrev register : Side → ℕ → Register
register side n = record { side = side; number = n }

abbrev is_register : WordClass → Side → ℕ → Bool
is_register (RegisterClass r) side n = same_side r.side side && eqb r.number n
is_register _ side n = false

-- the name of this register is a word, and is read as the register
is_named : Side → ℕ → Bool
is_named side n = is_word (register_word (register side n)) && is_register (class_of (register_word (register side n))) side n

named_on_a : all_below 32 (is_named A) ≡ true
unfolding all_below is_named class_of register_of digits
named_on_a = refl

named_on_b : all_below 32 (is_named B) ≡ true
unfolding all_below is_named class_of register_of digits
named_on_b = refl

named : (side : Side) (n : ℕ) → n < 32 → is_named side n ≡ true
named A n fits = from_all 32 (is_named A) n named_on_a fits
named B n fits = from_all 32 (is_named B) n named_on_b fits

one_side : (a b : Side) → same_side a b ≡ true → a ≡ b
one_side A A is = refl
one_side B B is = refl
one_side A B is = absurd (true≢false (sym is))
one_side B A is = absurd (true≢false (sym is))

register_is : (class : WordClass) (side : Side) (n : ℕ) → is_register class side n ≡ true → class ≡ RegisterClass (register side n)
register_is (RegisterClass r) side n is =
    let both = and_parts (same_side r.side side) (eqb r.number n) is in
    ap (λ s. RegisterClass (register s r.number)) (one_side r.side side both.0) ∙ ap (λ m. RegisterClass (register side m)) (eqb-true r.number n both.1)
register_is _ side n is = absurd (true≢false (sym is))

pub register_token : (r : Register) → r.number < 32 → is_word (register_word r) ≡ true
unfolding is_named
register_token r fits = (and_parts (is_word (register_word r)) _ (named r.side r.number fits)).0

pub register_class : (r : Register) → r.number < 32 → class_of (register_word r) ≡ RegisterClass r
unfolding is_named
register_class r fits = register_is (class_of (register_word r)) r.side r.number (and_parts (is_word (register_word r)) _ (named r.side r.number fits)).1
