-- The step of a text is a multiple of 32.
use Rattle.std.proofs.Common.{◌≡◌, ℕ, ◌*◌, ◌/◌, ◌%◌, ◌≤◌, ◌==◌, ◌&&◌, ◌||◌, Bool, true, false, max, count_ones, refl}
use Rattle.std.proofs.Common.{arith, nat_le}
use Rattle.std.specs.Prelude.{IsTrue}
use Rattle.std.specs.Int.{is_power_of_two}
use Rattle.std.proofs.lemmas.Bool.Decides.{nat_tests}
use Rattle.std.proofs.lemmas.Nat.{zero_from_ones}
use Rattle.std.specs.Int.Count.{ones_step}
use Rattle.c6x_module.specs.Alignment.{is_alignment}

-- a number with one digit is 1, or twice such a number
pub record Twice (n : ℕ) : Type 0 where
  pub even : n ≡ 2 * (n / 2)
  pub half : count_ones (n / 2) ≡ 1

twice : (n : ℕ) → count_ones n ≡ 1 → 2 ≤ n → Twice n
twice n one large = by (n % 2 == 1) refl
  where
    by : (t : Bool) → (n % 2 == 1) ≡ t → Twice n
    by true is =
        let s = ones_step n in
        let odd : n % 2 ≡ 1 = grind (arith, nat_tests) in
        let none : n / 2 ≡ 0 = zero_from_ones (n / 2) (omega (arith, s, odd, one)) in
        absurd (omega (arith, odd, none, large))
    by false is =
        let s = ones_step n in
        let even : n % 2 ≡ 0 = grind (arith, nat_tests) in
        record { even = omega (arith, even); half = omega (arith, s, even, one) }

-- so from 32 on it is a multiple of 32
power_whole : (n : ℕ) → count_ones n ≡ 1 → 32 ≤ n → n % 32 ≡ 0
power_whole n one large =
    let a = twice n one (omega (arith, large)) in
    let a_even = a.even in
    let b = twice (n / 2) a.half (omega (arith, large)) in
    let b_even = b.even in
    let c = twice (n / 2 / 2) b.half (omega (arith, large)) in
    let c_even = c.even in
    let d = twice (n / 2 / 2 / 2) c.half (omega (arith, large)) in
    let d_even = d.even in
    let e = twice (n / 2 / 2 / 2 / 2) d.half (omega (arith, large)) in
    let e_even = e.even in
    omega (arith, a_even, b_even, c_even, d_even, e_even)

one_is : (n : ℕ) → is_power_of_two n ≡ true → count_ones n ≡ 1
one_is n is = grind (arith, nat_tests)

step_by :
    (none power : Bool) (align : ℕ)
    → (align == 0) ≡ none
    → is_power_of_two align ≡ power
    → (none || (power && nat_le align 65536)) ≡ true
    → max 32 align % 32 ≡ 0
step_by true power align zero is holds = let none : align ≡ 0 = grind (arith, nat_tests) in omega (arith, none)
step_by false true align zero is holds = by (nat_le 32 align) refl
  where
    by : (t : Bool) → nat_le 32 align ≡ t → max 32 align % 32 ≡ 0
    by true large =
        let low : 32 ≤ align = grind (arith, nat_tests) in
        let whole = power_whole align (one_is align is) low in
        omega (arith, low, whole)
    by false small =
        let high : align ≤ 32 = grind (arith, nat_tests) in
        omega (arith, high)
step_by false false align zero is holds = absurd (cc holds)

pub step_whole : (align : ℕ) → IsTrue (is_alignment align) → max 32 align % 32 ≡ 0
step_whole align holds = step_by (align == 0) (is_power_of_two align) align refl refl holds
