-- Digits behind a number so far.
use Rattle.std.proofs.Common.{◌≡◌, ℕ, ◌+◌, ◌*◌, ◌^◌, ◌<◌, ◌≤◌, ◌⊎◌, inl, inr, List, [], ◌∷◌, Some, None, refl, sym, arith}
use Rattle.std.proofs.Math.Nat.{mul-le-mul_left}
use Rattle.std.proofs.lemmas.Bool.{lt-ltb, le-ltb, cases_lt}
use Rattle.c6x_asm_lines.specs.Lexemes.{digits_from, digit_of, below_limit, digits_value}
use Rattle.c6x_asm_lines.specs.Digits.{continued}

-- more digits make no smaller number
digits_grow : (base n : ℕ) (bs : List ℕ) → 1 ≤ base → n ≤ digits_from base n bs
digits_grow base n [] some = omega arith
digits_grow base n (b ∷ bs) some =
    let more : n * 1 ≤ n * base = mul-le-mul_left n some in
    let rest : n * base + digit_of b ≤ digits_from base (n * base + digit_of b) bs = digits_grow base (n * base + digit_of b) bs some in
    omega arith

too_large : (base : ℕ) (bs : List ℕ) → continued base None bs ≡ None
too_large base [] = refl
too_large base (b ∷ bs) = too_large base bs

continued_is : (base n : ℕ) (bs : List ℕ) → 1 ≤ base → n < 2 ^ 32 → continued base (Some n) bs ≡ below_limit (digits_from base n bs)
continued_is base n [] some small = rw (lt-ltb n (2 ^ 32) small) refl
continued_is base n (b ∷ bs) some small =
    either (λ next_small. continued_is base (n * base + digit_of b) bs some next_small) (cases_lt (n * base + digit_of b) (2 ^ 32))
  where
    either : (n * base + digit_of b < 2 ^ 32 → continued base (Some (n * base + digit_of b)) bs ≡ below_limit (digits_from base (n * base + digit_of b) bs)) → (n * base + digit_of b < 2 ^ 32) ⊎ (2 ^ 32 ≤ n * base + digit_of b) → continued base (below_limit (n * base + digit_of b)) bs ≡ below_limit (digits_from base (n * base + digit_of b) bs)
    either rest (inl next_small) = rw (lt-ltb (n * base + digit_of b) (2 ^ 32) next_small) (rest next_small)
    either rest (inr large) =
        let grown : n * base + digit_of b ≤ digits_from base (n * base + digit_of b) bs = digits_grow base (n * base + digit_of b) bs some in
        rw (le-ltb (n * base + digit_of b) (2 ^ 32) large, le-ltb (digits_from base (n * base + digit_of b) bs) (2 ^ 32) (omega arith)) (too_large base bs)

pub digits_value_is : (base : ℕ) (bs : List ℕ) → 1 ≤ base → digits_value base bs ≡ continued base (Some 0) bs
unfolding digits_value
digits_value_is base bs some = sym (continued_is base 0 bs some (omega arith))
