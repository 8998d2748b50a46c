-- The list of patched bytes is patched, and its items are bytes.
use Rattle.std.proofs.Common.{◌≡◌, ℕ, zero, suc, ◌+◌, ◌-◌, ◌*◌, ◌/◌, ◌%◌, ◌<◌, ◌≤◌, ◌&&◌, nat_le, nat_lt, inl, inr, Bool, true, false, if◌then◌else◌, None, Some, List, [], ◌∷◌, length, get_or, refl, sym, ◌∙◌, ap, subst, arith, lit<}
use Rattle.std.specs.Int.{bit_at}
use Rattle.std.proofs.lemmas.Bool.Decides.{leb_tells}
use Rattle.std.proofs.lemmas.List.FromFn.{get_or-map-range_with_len, length-map-range_with_len}
use Rattle.std.proofs.lemmas.List.{get_or_past}
use Rattle.c6x_spec.specs.Numbers.{bit_in}
use Rattle.c6x_reloc.specs.declared.field.Field.{Field}
use Rattle.c6x_reloc.specs.FieldBits.{AreBytes, byte_of_bits, field_bit, last_bit, lowest, or_bit, patched, patched_bit, patched_byte, width}
use Rattle.c6x_reloc.proofs.Steps.{or_bit_else}

-- bits are below 2
choice_small : (b : Bool) (x was : ℕ) → x < 2 → was < 2 → or_bit (if b then Some x else None) was < 2
choice_small true x was few small = few
choice_small false x was few small = small

field_small : (f : Field) (at was : ℕ) → was < 2 → or_bit (field_bit f at) was < 2
unfolding field_bit
field_small f at was small =
    let few : bit_at f.value (at - lowest f) < 2 = omega arith in
    choice_small (nat_le (lowest f) at && nat_lt at (lowest f + width f)) (bit_at f.value (at - lowest f)) was few small

last_small : (fs : List Field) (at was : ℕ) → was < 2 → or_bit (last_bit fs at) was < 2
last_small [] at was small = small
last_small (f ∷ fs) at was small =
    let P : ℕ → Type 0 = λ n. n < 2 in
    subst P (or_bit_else (last_bit fs at) (field_bit f at) was) (last_small fs at (or_bit (field_bit f at) was) (field_small f at was small))

bit_small : (old : List ℕ) (fields : List Field) (at : ℕ) → patched_bit old fields at < 2
bit_small old fields at = let few : bit_in old at < 2 = omega arith in last_small fields at (bit_in old at) few

-- a byte of bits is a byte, and has these bits
byte_small : (f : ℕ → ℕ) (at : ℕ) → ((i : ℕ) → f i < 2) → byte_of_bits f at < 256
byte_small f at small = omega (arith, small at, small (at + 1), small (at + 2), small (at + 3), small (at + 4), small (at + 5), small (at + 6), small (at + 7))

eight : (a b c d e f g h i : ℕ) → a < 2 → b < 2 → c < 2 → d < 2 → e < 2 → f < 2 → g < 2 → h < 2 → i < 8 → bit_at (a + 2 * b + 4 * c + 8 * d + 16 * e + 32 * f + 64 * g + 128 * h) i ≡ get_or (a ∷ b ∷ c ∷ d ∷ e ∷ f ∷ g ∷ h ∷ []) i 0
eight a b c d e f g h zero a2 b2 c2 d2 e2 f2 g2 h2 few = omega arith
eight a b c d e f g h (suc zero) a2 b2 c2 d2 e2 f2 g2 h2 few = omega arith
eight a b c d e f g h (suc (suc zero)) a2 b2 c2 d2 e2 f2 g2 h2 few = omega arith
eight a b c d e f g h (suc (suc (suc zero))) a2 b2 c2 d2 e2 f2 g2 h2 few = omega arith
eight a b c d e f g h (suc (suc (suc (suc zero)))) a2 b2 c2 d2 e2 f2 g2 h2 few = omega arith
eight a b c d e f g h (suc (suc (suc (suc (suc zero))))) a2 b2 c2 d2 e2 f2 g2 h2 few = omega arith
eight a b c d e f g h (suc (suc (suc (suc (suc (suc zero)))))) a2 b2 c2 d2 e2 f2 g2 h2 few = omega arith
eight a b c d e f g h (suc (suc (suc (suc (suc (suc (suc i))))))) a2 b2 c2 d2 e2 f2 g2 h2 few = let z : i ≡ 0 = omega arith in rw z (omega arith)

picked : (f : ℕ → ℕ) (at i : ℕ) → i < 8 → get_or (f at ∷ f (at + 1) ∷ f (at + 2) ∷ f (at + 3) ∷ f (at + 4) ∷ f (at + 5) ∷ f (at + 6) ∷ f (at + 7) ∷ []) i 0 ≡ f (at + i)
picked f at zero few = let z : at ≡ at + 0 = omega arith in ap f z
picked f at (suc zero) few = refl
picked f at (suc (suc zero)) few = refl
picked f at (suc (suc (suc zero))) few = refl
picked f at (suc (suc (suc (suc zero)))) few = refl
picked f at (suc (suc (suc (suc (suc zero))))) few = refl
picked f at (suc (suc (suc (suc (suc (suc zero)))))) few = refl
picked f at (suc (suc (suc (suc (suc (suc (suc i))))))) few = let z : i ≡ 0 = omega arith in rw z refl

byte_bit : (f : ℕ → ℕ) (at i : ℕ) → ((k : ℕ) → f k < 2) → i < 8 → bit_at (byte_of_bits f at) i ≡ f (at + i)
byte_bit f at i small few =
    eight (f at) (f (at + 1)) (f (at + 2)) (f (at + 3)) (f (at + 4)) (f (at + 5)) (f (at + 6)) (f (at + 7)) i (small at) (small (at + 1)) (small (at + 2)) (small (at + 3)) (small (at + 4)) (small (at + 5)) (small (at + 6)) (small (at + 7)) few
    ∙ picked f at i few

pub patched_length : (old : List ℕ) (fields : List Field) → length (patched old fields) ≡ length old
unfolding patched
patched_length old fields = length-map-range_with_len (patched_byte old fields) 0 (length old)

item_is : (old : List ℕ) (fields : List Field) (k : ℕ) → k < length old → get_or (patched old fields) k 0 ≡ patched_byte old fields k
unfolding patched
item_is old fields k below = get_or-map-range_with_len (patched_byte old fields) 0 (length old) k k 0 below (omega arith)

pub patched_bytes : (old : List ℕ) (fields : List Field) → AreBytes (patched old fields)
patched_bytes old fields i = elim (leb_tells (length old) i) [
  | inl (_, past) ↦
      let P : ℕ → Type 0 = λ n. n < 256 in
      let beyond : length (patched old fields) ≤ i = omega (arith, patched_length old fields) in
      subst P (sym (get_or_past (patched old fields) i 0 beyond)) (lit< tt)
  | inr (_, below) ↦
      let P : ℕ → Type 0 = λ n. n < 256 in
      subst P (sym (item_is old fields i below)) (byte_small (patched_bit old fields) (8 * i) (bit_small old fields))
]

-- inside the bytes each bit is as it has to be
pub inside_is : (old : List ℕ) (fields : List Field) (at : ℕ) → at / 8 < length old → bit_in (patched old fields) at ≡ or_bit (last_bit fields at) (bit_in old at)
inside_is old fields at below =
    let few : at % 8 < 8 = omega arith in
    let is : 8 * (at / 8) + at % 8 ≡ at = omega arith in
    ap (λ n. bit_at n (at % 8)) (item_is old fields (at / 8) below)
    ∙ byte_bit (patched_bit old fields) (8 * (at / 8)) (at % 8) (bit_small old fields) few
    ∙ ap (patched_bit old fields) is
