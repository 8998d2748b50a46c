-- The numbers of a shown line are read as the bits that they are shown for.
use Rattle.std.proofs.Common.{◌≡◌, ℕ, ◌-◌, ◌*◌, ◌%◌, ◌<◌, ◌≤◌, ◌⊎◌, Ok, refl, ◌∙◌, ap, arith, inl, inr}
use Rattle.std.proofs.Math.Nat.{mod-eq_of_lt}
use Rattle.std.proofs.lemmas.Bool.{cases_lt, lt-ltb, le-ltb, le-leb}
use Rattle.c6x_asm_lines.specs.Numbers.{number_in, range_of}
use Rattle.c6x_dis.specs.Shown.{natural, signed}

pub natural_again : (least most modulus n : ℕ) → least ≤ n → n ≤ most → number_in (range_of 0 least most modulus) (natural n) ≡ Ok n
unfolding number_in
natural_again least most modulus n low high =
    let one : n % 1 ≡ 0 = omega arith in
    rw (le-leb least n low, le-leb n most high, one) refl

pub signed_again : (half bits : ℕ) → bits < 2 * half → number_in (range_of half 0 (half - 1) (2 * half)) (signed half bits) ≡ Ok bits
unfolding number_in
signed_again half bits fits = either (cases_lt bits half)
  where
    either : (bits < half) ⊎ (half ≤ bits) → number_in (range_of half 0 (half - 1) (2 * half)) (signed half bits) ≡ Ok bits
    either (inl low) =
        let one : bits % 1 ≡ 0 = omega arith in
        rw (lt-ltb bits half low, le-leb 0 bits (omega arith), le-leb bits (half - 1) (omega (arith, low)), one) refl
    either (inr high) =
        let twice : 2 * half - (2 * half - bits) ≡ bits = omega (arith, fits) in
        let back : (2 * half - (2 * half - bits)) % (2 * half) ≡ bits = ap (λ n. n % (2 * half)) twice ∙ mod-eq_of_lt fits in
        let one : (2 * half - bits) % 1 ≡ 0 = omega arith in
        rw (le-ltb bits half high, le-leb (2 * half - bits) half (omega (arith, high)), one, back) refl
