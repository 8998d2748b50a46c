use Rattle.std.proofs.Common.{◌≡◌, ℕ, zero, suc, ◌+◌, ◌-◌, ◌*◌, ◌/◌, ◌%◌, ◌^◌, ◌<◌, ◌≤◌, List, get_or, take, sym, ◌∙◌, ap, lit<, arith}
use Rattle.std.specs.Int.{bit_at, to_le_bytes, w32}
use Rattle.std.proofs.lemmas.List.{get_or-take}
use Rattle.std.proofs.lemmas.Nat.{shr_split, mod_below, pow_pos, from_le_bytes-to_le_bytes_4}
use Rattle.std.proofs.lemmas.Nat.Bits.{bit_at_cat_low, bit_at_cat_high}
use Rattle.c6x_spec.specs.Numbers.{bit_in, number_in}

pub rest_below : (word k : ℕ) → word % 2 ^ k < 2 ^ k
rest_below word k = mod_below word (2 ^ k) (pow_pos k)

-- a bit of a word stands in its low part or in its high part
pub bit_at_below : (word k i : ℕ) → i < k → bit_at word i ≡ bit_at (word % 2 ^ k) i
bit_at_below word k i below = ap (λ n. bit_at n i) (sym (shr_split word k)) ∙ bit_at_cat_low (word / 2 ^ k) k (word % 2 ^ k) i below

pub bit_at_from : (word k i : ℕ) → k ≤ i → bit_at word i ≡ bit_at (word / 2 ^ k) (i - k)
bit_at_from word k i from = ap (λ n. bit_at n i) (sym (shr_split word k)) ∙ bit_at_cat_high (word / 2 ^ k) k (word % 2 ^ k) i (rest_below word k) from

-- a bit of bytes stands in one of them
pub bit_in_byte : (bytes : List ℕ) (i byte bit : ℕ) → i ≡ 8 * byte + bit → bit < 8 → bit_in bytes i ≡ bit_at (get_or bytes byte 0) bit
bit_in_byte bytes i byte bit is few =
    let whole : i / 8 ≡ byte = omega arith in
    let rest : i % 8 ≡ bit = omega arith in
    ap (λ n. bit_at (get_or bytes n 0) (i % 8)) whole ∙ ap (bit_at (get_or bytes byte 0)) rest

-- the bits of a number stand in bytes from a place on, those of the first byte lowest
pub record HasBits (bytes : List ℕ) (at count number : ℕ) : Type 0 where
  pub bits : (byte bit : ℕ) → byte < count → bit < 8 → bit_at (get_or bytes (at + byte) 0) bit ≡ bit_at number (8 * byte + bit)

low_byte : (b rest k : ℕ) → k < 8 → bit_at (b + 256 * rest) k ≡ bit_at b k
low_byte b rest k few = let e : b + 256 * rest ≡ rest * 2 ^ 8 + b = omega arith in rw e (bit_at_cat_low rest 8 b k few)

high_byte : (b rest i : ℕ) → b < 256 → bit_at (b + 256 * rest) (8 + i) ≡ bit_at rest i
high_byte b rest i small =
    let e : b + 256 * rest ≡ rest * 2 ^ 8 + b = omega arith in
    let d : (8 + i) - 8 ≡ i = omega arith in
    rw e (bit_at_cat_high rest 8 b (8 + i) small (omega arith) ∙ ap (bit_at rest) d)

-- they are those of the number of the bytes
number_bit : (count : ℕ) (bytes : List ℕ) (at byte bit : ℕ) → ((i : ℕ) → get_or bytes i 0 < 256) → byte < count → bit < 8 → bit_at (get_or bytes (at + byte) 0) bit ≡ bit_at (number_in count bytes at) (8 * byte + bit)
number_bit zero bytes at byte bit small below few = absurd (omega (arith, below))
number_bit (suc count) bytes at zero bit small below few =
    let here : at + 0 ≡ at = omega arith in
    let low : 8 * 0 + bit ≡ bit = omega arith in
    ap (λ i. bit_at (get_or bytes i 0) bit) here
    ∙ sym (low_byte (get_or bytes at 0) (number_in count bytes (at + 1)) bit few)
    ∙ ap (bit_at (get_or bytes at 0 + 256 * number_in count bytes (at + 1))) (sym low)
number_bit (suc count) bytes at (suc byte) bit small below few =
    let here : at + suc byte ≡ at + 1 + byte = omega arith in
    let high : 8 * suc byte + bit ≡ 8 + (8 * byte + bit) = omega arith in
    ap (λ i. bit_at (get_or bytes i 0) bit) here
    ∙ number_bit count bytes (at + 1) byte bit small (omega (arith, below)) few
    ∙ sym (high_byte (get_or bytes at 0) (number_in count bytes (at + 1)) (8 * byte + bit) (small at))
    ∙ ap (bit_at (get_or bytes at 0 + 256 * number_in count bytes (at + 1))) (sym high)

pub number_bits : (count : ℕ) (bytes : List ℕ) (at : ℕ) → ((i : ℕ) → get_or bytes i 0 < 256) → HasBits bytes at count (number_in count bytes at)
number_bits count bytes at small = record { bits = λ byte bit below few. number_bit count bytes at byte bit small below few }

-- a number in bytes
pub le_small : (u i : ℕ) → get_or (to_le_bytes w32 u) i 0 < 256
le_small u zero = omega arith
le_small u (suc zero) = omega arith
le_small u (suc (suc zero)) = omega arith
le_small u (suc (suc (suc zero))) = omega arith
le_small u (suc (suc (suc (suc i)))) = lit< tt

-- the first bytes of a word have its bits
pub written_bits : (u count : ℕ) → u < 2 ^ 32 → count ≤ 4 → HasBits (take count (to_le_bytes w32 u)) 0 count u
written_bits u count fits few =
    let all = number_bits 4 (to_le_bytes w32 u) 0 (le_small u) in
    let whole : number_in 4 (to_le_bytes w32 u) 0 ≡ u = omega (arith, from_le_bytes-to_le_bytes_4 u fits) in
    record {
      bits = λ byte bit below eight.
          let four : byte < 4 = omega arith in
          let first : 0 + byte ≡ byte = omega arith in
          ap (λ i. bit_at (get_or (take count (to_le_bytes w32 u)) i 0) bit) first
          ∙ ap (λ b. bit_at b bit) (get_or-take count (to_le_bytes w32 u) byte 0 below)
          ∙ ap (λ i. bit_at (get_or (to_le_bytes w32 u) i 0) bit) (sym first)
          ∙ all.bits byte bit four eight
          ∙ ap (λ n. bit_at n (8 * byte + bit)) whole;
    }
