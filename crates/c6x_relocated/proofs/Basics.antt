-- Small facts that several proofs share.
use Rattle.std.proofs.Common.{◌≡◌, ℕ, zero, suc, ◌%◌, ◌^◌, ◌<◌, List, [], ◌∷◌, ◌++◌, length, map, Option, None, Some, refl, ap, subst, arith}
use Rattle.std.specs.Prelude.{All, option_map, slice_get}
use Rattle.std.proofs.lemmas.List.Elements.{All-head, All-tail}

-- a member of a list
pub of_one : {X : Type 0} (P : X → Type 0) (before : List X) (x : X) (after : List X) → All P (before ++ x ∷ after)
    → P x
of_one P [] x after all = All-head P x after all
of_one P (b ∷ before) x after all = of_one P before x after (All-tail P b (before ++ x ∷ after) all)

-- an item of a list
pub get_map : {X Y : Type 0} (g : X → Y) (xs : List X) (k : ℕ) (x : X) → slice_get xs k ≡ Some x
    → slice_get (map g xs) k ≡ Some (g x)
get_map g [] k x is = absurd (cc is)
get_map g (y ∷ ys) zero x is = let same : y ≡ x = cc is in ap (λ v. Some (g v)) same
get_map g (y ∷ ys) (suc k) x is = get_map g ys k x is

pub got : {X : Type 0} (xs : List X) (i : ℕ) (x : X) → slice_get xs i ≡ Some x → i < length xs
got [] i x is = absurd (cc is)
got (y ∷ ys) zero x is = omega arith
got (y ∷ ys) (suc i) x is = let rest = got ys i x is in omega (arith, rest)

pub listed : {X : Type 0} (P : X → Type 0) (xs : List X) (i : ℕ) (x : X) → slice_get xs i ≡ Some x → All P xs → P x
listed P [] i x is all = absurd (cc is)
listed P (y ∷ ys) zero x is all = let same : y ≡ x = cc is in subst P same (All-head P y ys all)
listed P (y ∷ ys) (suc i) x is all = listed P ys i x is (All-tail P y ys all)

pub map_none : {A B : Type 0} (f : A → B) (o : Option A) → option_map f o ≡ None → o ≡ None
map_none f None is = refl
map_none f (Some x) is = absurd (cc is)

pub double_mod : (n : ℕ) → n % 2 ^ 32 % 2 ^ 32 ≡ n % 2 ^ 32
double_mod n = omega arith
