-- The words of the loader as sums.
use Rattle.std.proofs.Common.{◌≡◌, ℕ, ◌+◌, ◌-◌, ◌*◌, ◌/◌, ◌%◌, ◌^◌, ◌<◌, ap, ◌∙◌, arith}
use Rattle.std.proofs.lemmas.Nat.{div-add-mod'}
use Rattle.c6x_reloc.specs.Shift.{moved_by}
use Rattle.c6x_load.specs.Values.{shift_of}

pub start_sum : (s a d start : ℕ) → start < 2 ^ 32 → (moved_by d start + ((s + a) % 2 ^ 32 + (2 ^ 32 - start)) % 2 ^ 32) % 2 ^ 32 ≡ (moved_by d s + a) % 2 ^ 32
start_sum s a d start below = omega arith

pub shift_place : (at vaddr place : ℕ) → vaddr < 2 ^ 32 → at + place < 2 ^ 32 → moved_by (shift_of at vaddr) (vaddr + place) ≡ at + place
shift_place at vaddr place below fits = omega arith

-- a step that is a multiple of 32
mod_of_step : (a step : ℕ) → step % 32 ≡ 0 → a % 32 ≡ a % step % 32
mod_of_step a step whole =
    let j : ℕ = step / 32 in
    let q : ℕ = a / step in
    let s : step ≡ 32 * j = omega arith in
    let split : q * step + a % step ≡ a = div-add-mod' a step in
    let product : q * step ≡ 32 * (q * j) = ap (λ n. q * n) s ∙ grind arith in
    omega (arith, split, product)

pub shift_whole : (at vaddr step : ℕ) → at % step ≡ vaddr % step → step % 32 ≡ 0 → vaddr % 32 ≡ 0 → vaddr < 2 ^ 32 → shift_of at vaddr % 32 ≡ 0
shift_whole at vaddr step same whole packet below =
    let a = mod_of_step at step whole in
    let v = mod_of_step vaddr step whole in
    let e : at % step % 32 ≡ vaddr % step % 32 = ap (λ n. n % 32) same in
    omega (arith, a, v, e)
