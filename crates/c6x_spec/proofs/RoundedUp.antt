use Rattle.std.proofs.Common.{◌≡◌, ℕ, ◌+◌, ◌-◌, ◌*◌, ◌/◌, ◌<◌, ◌≤◌, inl, inr, suc, refl, arith}
use Rattle.std.proofs.Math.Nat.{lt-div-mul-add, div-mul-le_self, mul-le-mul_right, suc-mul}
use Rattle.std.proofs.lemmas.Bool.Decides.{leb_tells}
use Rattle.c6x_spec.specs.Rounded.{rounded, IsRounded}

-- no smaller multiple reaches the number
below_next : (q k align : ℕ) → q * align < k * align + align → q * align ≤ k * align
below_next q k align below = elim (leb_tells q k) [
  | inl (_, le) ↦ mul-le-mul_right align le
  | inr (_, more) ↦
      let over : suc k * align ≤ q * align = mul-le-mul_right align more in
      let next : suc k * align ≡ k * align + align = suc-mul k align in
      absurd (omega (arith, over, next, below))
]

pub rounded_is_least : (v align : ℕ) → 1 ≤ align → IsRounded v align (rounded v align)
rounded_is_least v align some =
    let over : v + (align - 1) < rounded v align + align = lt-div-mul-add some in
    let under : rounded v align ≤ v + (align - 1) = div-mul-le_self _ _ in
    record {
      count = (v + (align - 1)) / align;
      multiple_of = refl;
      not_below = omega (arith, over);
      least = λ k reaches. below_next ((v + (align - 1)) / align) k align (omega (arith, under, reaches));
    }
