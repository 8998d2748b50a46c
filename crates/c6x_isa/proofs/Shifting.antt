-- A number shifted out of its word.

use Rattle.std.proofs.Common.{◌≡◌, ℕ, ◌+◌, ◌-◌, ◌*◌, ◌%◌, ◌^◌, ◌≤◌, sym, ◌∙◌, ap, arith}
use Rattle.std.proofs.lemmas.Nat.{pow-add, mod_low, pow_pos}

pub shifted_out : (value count : ℕ) → 32 ≤ count → 0 ≡ value * 2 ^ count % 2 ^ 32
shifted_out value count far =
    let rest : ℕ = count - 32 in
    let sum : rest + 32 ≡ count = omega arith in
    let split : value * 2 ^ count ≡ value * 2 ^ rest * 2 ^ 32 + 0 =
    ap (λ n. value * 2 ^ n) (sym sum) ∙ rw (pow-add 2 rest 32) (omega arith) in
    sym (ap (λ n. n % 2 ^ 32) split ∙ mod_low (value * 2 ^ rest) 32 0 (pow_pos 32))
