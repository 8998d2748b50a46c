-- A word written among bytes is a field that is set.
use Rattle.std.proofs.Common.{◌≡◌, ℕ, ◌+◌, ◌-◌, ◌/◌, ◌%◌, ◌^◌, ◌<◌, ◌≤◌, ◌⊎◌, inl, inr, List, [], ◌∷◌, length, take, refl, sym, ap, ◌∙◌, subst, arith}
use Rattle.std.specs.Int.{bit_at, to_le_bytes, w32}
use Rattle.std.proofs.lemmas.Bool.Decides.{leb_tells}
use Rattle.c6x_spec.specs.Fields.{IsPatched}
use Rattle.c6x_spec.specs.Memory.{spliced}
use Rattle.c6x_spec.specs.Numbers.{number_in}
use Rattle.c6x_spec.proofs.NumberBits.{bit_at_from, le_small}
use Rattle.c6x_spec.proofs.Splices.{spliced_inside, spliced_outside}
use Rattle.c6x_reloc.proofs.FieldBits.{patched_at}
use Rattle.c6x_reloc.specs.Table.{row_of}
use Rattle.c6x_reloc.specs.declared.reloc_kind.RelocKind.TheVariants.{ABS32}
use Rattle.c6x_reloc.specs.FieldBits.{AreBytes, IsPatchedBy}
use Rattle.c6x_reloc.proofs.Steps.{one_set}
use Rattle.c6x_relocated.specs.Holds.{word_field}

-- the high bits of words are none
high_same : (u w i : ℕ) → u < 2 ^ 32 → w < 2 ^ 32 → 32 ≤ i → bit_at u i ≡ bit_at w i
high_same u w i fu fw high =
    let zu : u / 2 ^ 32 ≡ 0 = omega arith in
    let zw : w / 2 ^ 32 ≡ 0 = omega arith in
    bit_at_from u 32 i high ∙ ap (λ n. bit_at n (i - 32)) (zu ∙ sym zw) ∙ sym (bit_at_from w 32 i high)

word_small : (bytes : List ℕ) (at : ℕ) → AreBytes bytes → number_in 4 bytes at < 2 ^ 32
word_small bytes at small = omega (arith, small at, small (at + 1), small (at + 1 + 1), small (at + 1 + 1 + 1))

whole_patch : (w u : ℕ) → w < 2 ^ 32 → u < 2 ^ 32 → IsPatched w 0 32 u u
whole_patch w u fw fu = record { field = omega arith; others = λ place out. either place out }
  where
    either : (place : ℕ) → (place < 0) ⊎ (0 + 32 ≤ place) → bit_at u place ≡ bit_at w place
    either place (inl low) = absurd (omega arith)
    either place (inr high) = high_same u w place fu fw (omega arith)

-- a word and its rest modulo 2^32 have the same bytes
pub same_bytes : (v : ℕ) → to_le_bytes w32 (v % 2 ^ 32) ≡ to_le_bytes w32 v
same_bytes v =
    let a : v % 2 ^ 32 % 256 ≡ v % 256 = omega arith in
    let b : v % 2 ^ 32 / 256 % 256 ≡ v / 256 % 256 = omega arith in
    let c : v % 2 ^ 32 / 65536 % 256 ≡ v / 65536 % 256 = omega arith in
    let d : v % 2 ^ 32 / 16777216 % 256 ≡ v / 16777216 % 256 = omega arith in
    λ i. a i ∷ b i ∷ c i ∷ d i ∷ []

four : (v : ℕ) → take 4 (to_le_bytes w32 v) ≡ to_le_bytes w32 v
four v = refl

pub word_patched : (bytes : List ℕ) (place v : ℕ) → AreBytes bytes → place + 4 ≤ length bytes → IsPatchedBy bytes (word_field place (v % 2 ^ 32) ∷ []) (spliced bytes place (to_le_bytes w32 v))
unfolding row_of
word_patched bytes place v small within =
    let u : ℕ = v % 2 ^ 32 in
    let fits : u < 2 ^ 32 = omega arith in
    let put : spliced bytes place (to_le_bytes w32 v) ≡ spliced bytes place (take 4 (to_le_bytes w32 u)) = ap (spliced bytes place) (sym (four u ∙ same_bytes v)) in
    one_set (word_field place u) bytes (spliced bytes place (to_le_bytes w32 v))
    (patched_at bytes (spliced bytes place (to_le_bytes w32 v)) place u (number_in 4 bytes place) u 4 ABS32 refl (omega arith) (omega arith) within small refl fits
    (whole_patch (number_in 4 bytes place) u (word_small bytes place small) fits)
    put).sets

pub splice_small : (bytes : List ℕ) (place word : ℕ) → AreBytes bytes → place + 4 ≤ length bytes → AreBytes (spliced bytes place (to_le_bytes w32 word))
splice_small bytes place word small within i =
    let P : ℕ → Type 0 = λ b. b < 256 in
    elim (leb_tells place i) [
      | inr (_, front) ↦ subst P (sym (spliced_outside bytes place (to_le_bytes w32 word) i within (inl front))) (small i)
      | inl (_, above) ↦ elim (leb_tells (place + 4) i) [
        | inl (_, behind) ↦ subst P (sym (spliced_outside bytes place (to_le_bytes w32 word) i within (inr behind))) (small i)
        | inr (_, inside) ↦
            let is : i ≡ place + (i - place) = omega arith in
            let below : i - place < 4 = omega arith in
            subst P (sym (spliced_inside bytes place (to_le_bytes w32 word) i (i - place) is within below)) (le_small word (i - place))
      ]
    ]
