-- The rights, byte by byte.
use Rattle.std.proofs.Common.{◌≡◌, ℕ, zero, suc, ◌+◌, ◌<◌, ◌≤◌, ◌^◌, inl, inr, List, [], ◌∷◌, refl, sym, arith, Bool, true, false, ◌&&◌, ◌||◌, Some}
use Rattle.std.specs.Prelude.{slice_get}
use Rattle.std.proofs.lemmas.Bool.{cases_eq}
use Rattle.std.proofs.lemmas.Bool.Decides.{nat_tests}
use Rattle.c6x_access.specs.declared.area.Area.{Area}
use Rattle.c6x_access.specs.declared.right.Right.{Right}
use Rattle.c6x_access.specs.Laws.{IsGiven, IsAccess}
use Rattle.c6x_access.specs.Rights.{has_right, is_inside, gives, allowed, all_allowed, may_access, is_own}

both : (a b : Bool) → (a && b) ≡ true → (a ≡ true) × (b ≡ true)
both true true is = (refl, refl)
both true false is = cc
both false b is = cc

given_by : (area : Area) (areas : List Area) (right : Right) (x : ℕ) (found : Bool) → found ≡ gives area right x → (allowed areas right x ≡ true → IsGiven areas right x) → (found || allowed areas right x) ≡ true → IsGiven (area ∷ areas) right x
given_by area areas right x true is more allowed_here =
    let parts : (has_right area right ≡ true) × (is_inside area.lo area.len x ≡ true) = both (has_right area right) (is_inside area.lo area.len x) (sym is) in
    let inside : is_inside area.lo area.len x ≡ true = parts.1 in
    record { place = 0; area = area; is_area = refl; given = parts.0; above = grind (arith, nat_tests); below = grind (arith, nat_tests) }
given_by area areas right x false is more allowed_here =
    let there : IsGiven areas right x = more allowed_here in
    record { place = suc there.place; area = there.area; is_area = there.is_area; given = there.given; above = there.above; below = there.below }

pub is_given : (areas : List Area) (right : Right) (x : ℕ) → allowed areas right x ≡ true → IsGiven areas right x
is_given [] right x is = cc
is_given (area ∷ areas) right x is = given_by area areas right x (gives area right x) refl (is_given areas right x) is

given_at : (areas : List Area) (right : Right) (x place : ℕ) (area : Area) → slice_get areas place ≡ Some area → gives area right x ≡ true → allowed areas right x ≡ true
given_at [] right x place area is given = cc
given_at (first ∷ areas) right x zero area is given =
    let same : first ≡ area = cc in
    rw (same, given) refl
given_at (first ∷ areas) right x (suc place) area is given =
    let more : allowed areas right x ≡ true = given_at areas right x place area is given in
    rw more (grind arith)

pub all_each : (areas : List Area) (right : Right) (at size x : ℕ) → all_allowed areas right at size ≡ true → at ≤ x → x < at + size → allowed areas right x ≡ true
all_each areas right at zero x is from to = absurd (omega arith)
all_each areas right at (suc size) x is from to =
    let parts : (allowed areas right at ≡ true) × (all_allowed areas right (at + 1) size ≡ true) = both (allowed areas right at) (all_allowed areas right (at + 1) size) is in
    elim (cases_eq x at) [
      | inl here ↦ rw here parts.0
      | inr later ↦ all_each areas right (at + 1) size x parts.1 (omega arith) (omega arith)
    ]

pub each_all : (areas : List Area) (right : Right) (at size : ℕ) → ((x : ℕ) → at ≤ x → x < at + size → allowed areas right x ≡ true) → all_allowed areas right at size ≡ true
each_all areas right at zero each = refl
each_all areas right at (suc size) each =
    let here : allowed areas right at ≡ true = each at (omega arith) (omega arith) in
    rw here (each_all areas right (at + 1) size (λ x from to. each x (omega arith) (omega arith)))

pub may_within : (areas : List Area) (right : Right) (at size : ℕ) → may_access areas right at size ≡ true → at + size ≤ 2 ^ 32
unfolding may_access
may_within areas right at size is = grind (arith, nat_tests)

pub may_each : (areas : List Area) (right : Right) (at size x : ℕ) → may_access areas right at size ≡ true → at ≤ x → x < at + size → allowed areas right x ≡ true
unfolding may_access
may_each areas right at size x is from to = all_each areas right at size x (both _ (all_allowed areas right at size) is).1 from to

pub is_access : (areas : List Area) (right : Right) (at len : ℕ) → may_access areas right at len ≡ true → IsAccess areas right at len
is_access areas right at len is = record {
  within = may_within areas right at len is;
  each = λ x from to. is_given areas right x (may_each areas right at len x is from to);
}

pub may_be_accessed : (areas : List Area) (right : Right) (at len : ℕ) → IsAccess areas right at len → may_access areas right at len ≡ true
unfolding may_access
may_be_accessed areas right at len k =
    let each : all_allowed areas right at len ≡ true = each_all areas right at len (λ x from to.
    let g : IsGiven areas right x = k.each x from to in
    let above : g.area.lo ≤ x = g.above in
    let below : x < g.area.lo + g.area.len = g.below in
    let inside : is_inside g.area.lo g.area.len x ≡ true = grind (arith, nat_tests) in
    given_at areas right x g.place g.area g.is_area (rw (g.given, inside) refl)) in
    let within : at + len ≤ 2 ^ 32 = k.within in
    rw each (grind (arith, nat_tests))

own_step : (right inside rest own : Bool) → ((right && inside) || rest) ≡ true → (rest ≡ true → own ≡ true) → (inside || own) ≡ true
own_step right true rest own is more = refl
own_step true false rest own is more = more is
own_step false false rest own is more = more is

-- a byte that may be used is the process's own
pub allowed_own : (areas : List Area) (right : Right) (x : ℕ) → allowed areas right x ≡ true → is_own areas x ≡ true
allowed_own [] right x is = is
allowed_own (area ∷ areas) right x is = own_step (has_right area right) (is_inside area.lo area.len x) (allowed areas right x) (is_own areas x) is (allowed_own areas right x)

pub may_own : (areas : List Area) (right : Right) (at size x : ℕ) → may_access areas right at size ≡ true → at ≤ x → x < at + size → is_own areas x ≡ true
may_own areas right at size x is from to = allowed_own areas right x (may_each areas right at size x is from to)
