-- Lists made of numbered items, one item on.
use Rattle.std.proofs.Common.{◌≡◌, ℕ, suc, ◌+◌, ◌<◌, List, [], ◌∷◌, ◌++◌, length, take, get_or, sym, ap, ◌∙◌, arith}
use Rattle.std.proofs.lemmas.List.{flat_map_more, length-take-le, take_more}
use Rattle.std.specs.List.{enumerate_from, flat_map}

enumerate_push : {X : Type 0} (n : ℕ) (xs : List X) (x : X) → enumerate_from n (xs ++ x ∷ []) ≡ enumerate_from n xs ++ (n + length xs, x) ∷ []
enumerate_push {X} n [] x = let e : n ≡ n + 0 = omega arith in ap {B = List (ℕ × X)} (λ k. (k, x) ∷ []) e
enumerate_push {X} n (y ∷ ys) x =
    let e : n + 1 + length ys ≡ n + suc (length ys) = omega arith in
    ap (λ zs. (n, y) ∷ zs) (enumerate_push (n + 1) ys x ∙ ap {B = List (ℕ × X)} (λ k. enumerate_from (n + 1) ys ++ (k, x) ∷ []) e)

-- the numbered items of a list, one item on
pub enumerate_more : {X : Type 0} (xs : List X) (i : ℕ) (d : X) → i < length xs → enumerate_from 0 (take (i + 1) xs) ≡ enumerate_from 0 (take i xs) ++ (i, get_or xs i d) ∷ []
enumerate_more {X} xs i d below =
    let n : 0 + length (take i xs) ≡ i = omega (arith, length-take-le i xs (omega arith)) in
    ap (enumerate_from 0) (take_more xs i d below) ∙ enumerate_push 0 (take i xs) (get_or xs i d)
    ∙ ap {B = List (ℕ × X)} (λ k. enumerate_from 0 (take i xs) ++ (k, get_or xs i d) ∷ []) n

-- what each numbered item gives, behind what was there
pub numbered_more : {X A : Type 0} (f : ℕ × X → List A) (had : List A) (xs : List X) (i : ℕ) (d : X) → i < length xs → had ++ flat_map f (enumerate_from 0 (take (i + 1) xs)) ≡ (had ++ flat_map f (enumerate_from 0 (take i xs))) ++ f (i, get_or xs i d)
numbered_more f had xs i d below =
    ap (λ ys. had ++ flat_map f ys) (enumerate_more xs i d below)
    ∙ sym (flat_map_more f had (enumerate_from 0 (take i xs)) (i, get_or xs i d))

-- the same with nothing there
pub numbered_alone : {X A : Type 0} (f : ℕ × X → List A) (xs : List X) (i : ℕ) (d : X) → i < length xs → flat_map f (enumerate_from 0 (take (i + 1) xs)) ≡ flat_map f (enumerate_from 0 (take i xs)) ++ f (i, get_or xs i d)
numbered_alone f xs i d below = numbered_more f [] xs i d below
