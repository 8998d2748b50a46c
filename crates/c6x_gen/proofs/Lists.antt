-- What stands at a place of a list, and what holds along it.
use Rattle.std.proofs.Common.{◌≡◌, ℕ, zero, suc, ◌+◌, ◌<◌, ◌≤◌, List, [], ◌∷◌, ◌++◌, length, map, Option, None, Some, slice_get, refl, ap, sym, subst, arith, ⊎_elim}
use Rattle.std.specs.List.{range_with_len}
use Rattle.std.proofs.lemmas.Bool.{cases_eq}
use Rattle.std.proofs.lemmas.List.{length-append}
use Rattle.c6x_gen.specs.Lists.{each_below}
use Rattle.c6x_spec.specs.Firsts.{first_along}

-- a fact of each number below another
abbrev pub EachBelow : ℕ → (ℕ → Type 0) → Type 0
EachBelow zero P = Unit {0}
EachBelow (suc last) P = P last × EachBelow last P

pub below_is : (count : ℕ) (P : ℕ → Type 0) → EachBelow count P → (number : ℕ) → number < count → P number
below_is zero P each number below = absurd (omega (arith, below))
below_is (suc last) P each number below =
    ⊎_elim (λ (is : number ≡ last). subst P (sym is) each.0)
    (λ (other : number ≡ last → ⊥). below_is last P each.1 number (omega (arith, below, other)))
    (cases_eq number last)

-- what stands at a place stands there in front of more
get_front : {X : Type 0} (xs ys : List X) (place : ℕ) (x : X) → slice_get xs place ≡ Some x → slice_get (xs ++ ys) place ≡ Some x
get_front [] ys place x is = absurd (cc is)
get_front (first ∷ xs) ys zero x is = is
get_front (first ∷ xs) ys (suc place) x is = get_front xs ys place x is

get_behind : {X : Type 0} (xs : List X) (y : X) → slice_get (xs ++ y ∷ []) (length xs) ≡ Some y
get_behind [] y = refl
get_behind (first ∷ xs) y = get_behind xs y

each_length : {X : Type 0} (f : ℕ → X) (count : ℕ) → length (each_below count (λ line. f line ∷ [])) ≡ count
unfolding each_below
each_length f zero = refl
each_length f (suc last) = omega (arith, length-append (each_below last (λ line. f line ∷ [])) (f last ∷ []), each_length f last)

pub each_get : {X : Type 0} (f : ℕ → X) (count place : ℕ) → place < count → slice_get (each_below count (λ line. f line ∷ [])) place ≡ Some (f place)
unfolding each_below
each_get f zero place below = absurd (omega (arith, below))
each_get f (suc last) place below =
    ⊎_elim (λ (is : place ≡ last). subst (λ k. slice_get (each_below last (λ line. f line ∷ []) ++ f last ∷ []) k ≡ Some (f k)) (sym is) here)
    (λ (other : place ≡ last → ⊥). get_front (each_below last (λ line. f line ∷ [])) (f last ∷ []) place (f place) (each_get f last place (omega (arith, below, other))))
    (cases_eq place last)
  where
    here : slice_get (each_below last (λ line. f line ∷ []) ++ f last ∷ []) last ≡ Some (f last)
    here = subst (λ k. slice_get (each_below last (λ line. f line ∷ []) ++ f last ∷ []) k ≡ Some (f last)) (each_length f last) (get_behind (each_below last (λ line. f line ∷ [])) (f last))

pub map_get : {X Y : Type 0} (f : X → Y) (xs : List X) (place : ℕ) (x : X) → slice_get xs place ≡ Some x → slice_get (map f xs) place ≡ Some (f x)
map_get f [] place x is = absurd (cc is)
map_get f (first ∷ xs) zero x is = let same : first ≡ x = cc is in ap (λ y. Some (f y)) same
map_get f (first ∷ xs) (suc place) x is = map_get f xs place x is

-- nothing is refused along what each place makes
pub none_along : {X R : Type 0} (test : X → Option R) (make : ℕ → X) (from count : ℕ) → ((place : ℕ) → from ≤ place → place < from + count → test (make place) ≡ None) → first_along test (map make (range_with_len from count)) ≡ None
none_along test make from zero passes = refl
none_along test make from (suc count) passes =
    rw (passes from (omega arith) (omega arith)) (none_along test make (from + 1) count (λ place least below. passes place (omega (arith, least)) (omega (arith, below))))
