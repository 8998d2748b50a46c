use Rattle.std.proofs.Common.{◌≡◌, ℕ, zero, suc, List, [], ◌∷◌, refl, ap}
use Rattle.std.specs.Prelude.{Some, set, slice_get, map}

-- what is set as it was changes nothing
pub set_same : {A : Type 0} (xs : List A) (place : ℕ) (x : A) → slice_get xs place ≡ Some x → set xs place x ≡ xs
set_same [] place x is = absurd (cc)
set_same (y ∷ xs) zero x is = cc
set_same (y ∷ xs) (suc place) x is = ap (λ rest. y ∷ rest) (set_same xs place x is)

pub map_set : {A B : Type 0} (f : A → B) (xs : List A) (place : ℕ) (x : A) → map f (set xs place x) ≡ set (map f xs) place (f x)
map_set f [] place x = refl
map_set f (y ∷ xs) zero x = refl
map_set f (y ∷ xs) (suc place) x = ap (λ rest. f y ∷ rest) (map_set f xs place x)
