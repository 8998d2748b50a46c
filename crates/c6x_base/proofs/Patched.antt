use Rattle.std.proofs.Common.{◌≡◌, ℕ, ◌+◌, ◌-◌, ◌*◌, ◌/◌, ◌%◌, ◌^◌, ◌<◌, ◌≤◌, inl, inr, bit_or, sym, ◌∙◌, ap, subst, add_comm, arith}
use Rattle.std.proofs.Math.Nat.{add-mul, mul_assoc}
use Rattle.std.specs.Int.{bit_at}
use Rattle.std.proofs.lemmas.Nat.{or_shifted, shr_high, mod_low, shl_whole, shl_below, pow-add}
use Rattle.std.proofs.lemmas.Nat.Bits.{bit_at_cat_low, bit_at_cat_high}
use Rattle.c6x_spec.specs.Fields.{IsPatched}
use Rattle.c6x_spec.proofs.NumberBits.{bit_at_below, bit_at_from, rest_below}

-- the part above a field, a value and the part below it, side by side, are the word with that value in the field
joined_3 : (word low count value : ℕ) → value < 2 ^ count → IsPatched word low count value ((word / 2 ^ (low + count) * 2 ^ count + value) * 2 ^ low + word % 2 ^ low)
joined_3 word low count value fits =
    let high : ℕ = word / 2 ^ (low + count) in
    record {
      field =
          ap (λ n. n % 2 ^ count) (shr_high (high * 2 ^ count + value) low (word % 2 ^ low) (rest_below word low))
          ∙ mod_low high count value fits;
      others = λ place outside. elim outside [
        | inl below ↦
            bit_at_cat_low (high * 2 ^ count + value) low (word % 2 ^ low) place below ∙ sym (bit_at_below word low place below)
        | inr from ↦
            let from_low : low ≤ place = omega arith in
            let from_count : count ≤ place - low = omega arith in
            let same : place - low - count ≡ place - (low + count) = omega arith in
            bit_at_cat_high (high * 2 ^ count + value) low (word % 2 ^ low) place (rest_below word low) from_low
            ∙ bit_at_cat_high high count value (place - low) fits from_count
            ∙ ap (λ i. bit_at high i) same
            ∙ sym (bit_at_from word (low + count) place from)
      ];
    }

-- the same parts, put together by `|`
pub or_patched : (word low count value : ℕ) → low + count ≤ 32 → value < 2 ^ count → IsPatched word low count value (bit_or (bit_or (word / 2 ^ (low + count) * 2 ^ (low + count)) (value * 2 ^ low % 2 ^ 32)) (word % 2 ^ low))
or_patched word low count value within fits =
    let high : ℕ = word / 2 ^ (low + count) in
    let whole : value * 2 ^ low % 2 ^ 32 ≡ value * 2 ^ low = shl_whole value count low 32 fits (omega arith) in
    let below : value * 2 ^ low < 2 ^ (low + count) = subst (λ k. value * 2 ^ low < 2 ^ k) (add_comm count low) (shl_below value count low fits) in
    let two : bit_or (high * 2 ^ (low + count)) (value * 2 ^ low) ≡ high * 2 ^ (low + count) + value * 2 ^ low = or_shifted high (low + count) (value * 2 ^ low) below in
    let split : high * 2 ^ (low + count) + value * 2 ^ low ≡ (high * 2 ^ count + value) * 2 ^ low =
    rw (add-mul, mul_assoc) (ap (λ p. high * p + value * 2 ^ low) (ap (λ k. 2 ^ k) (add_comm low count) ∙ pow-add 2 count low)) in
    let three : bit_or ((high * 2 ^ count + value) * 2 ^ low) (word % 2 ^ low) ≡ (high * 2 ^ count + value) * 2 ^ low + word % 2 ^ low =
    or_shifted (high * 2 ^ count + value) low (word % 2 ^ low) (rest_below word low) in
    rw (whole, two, split, three) (joined_3 word low count value fits)
