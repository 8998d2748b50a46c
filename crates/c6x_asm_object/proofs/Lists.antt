use Rattle.std.proofs.Common.{◌≡◌, ℕ, zero, suc, ◌+◌, Bool, true, false, cond, List, [], ◌∷◌, ◌++◌, Option, None, subst, arith}
use Rattle.std.specs.Prelude.{All, filter}
use Rattle.std.specs.List.{range_with_len}
use Rattle.c6x_elf.specs.Rules.{Refusal, first_along}
use Rattle.c6x_elf.proofs.Moves.{both_none}
use Rattle.c6x_elf.proofs.Placed.{none_first, none_later}

-- what holds of each element, by recursion
abbrev pub Each : {A : Type 0} → (A → Type 0) → List A → Type 0
Each P [] = Unit {0}
Each P (x ∷ xs) = P x × Each P xs

pub each_of : {A : Type 0} (P : A → Type 0) (xs : List A) → All P xs → Each P xs
each_of P [] all = tt
each_of P (x ∷ xs) all = (all zero x (omega arith), each_of P xs (λ k d below. all (suc k) d (omega arith)))

pub all_of : {A : Type 0} (P : A → Type 0) (xs : List A) → Each P xs → All P xs
all_of P [] each k d below = absurd (omega arith)
all_of P (x ∷ xs) each zero d below = each.0
all_of P (x ∷ xs) each (suc k) d below = all_of P xs each.1 k d (omega arith)

pub each_append : {A : Type 0} (P : A → Type 0) (xs ys : List A) → Each P xs → Each P ys → Each P (xs ++ ys)
each_append P [] ys front back = back
each_append P (x ∷ xs) ys front back = (front.0, each_append P xs ys front.1 back)

pub each_front : {A : Type 0} (P : A → Type 0) (xs ys : List A) → Each P (xs ++ ys) → Each P xs
each_front P [] ys each = tt
each_front P (x ∷ xs) ys each = (each.0, each_front P xs ys each.1)

pub each_back : {A : Type 0} (P : A → Type 0) (xs ys : List A) → Each P (xs ++ ys) → Each P ys
each_back P [] ys each = each
each_back P (x ∷ xs) ys each = each_back P xs ys each.1

filter_if : {A : Type 0} (P : A → Type 0) (t : Bool) (x : A) (xs : List A) → P x → Each P xs → Each P (cond t (x ∷ xs) xs)
filter_if P true x xs here later = (here, later)
filter_if P false x xs here later = later

pub each_filter : {A : Type 0} (P : A → Type 0) (test : A → Bool) (xs : List A) → Each P xs → Each P (filter test xs)
each_filter P test [] each = tt
each_filter P test (x ∷ xs) each = filter_if P (test x) x (filter test xs) each.0 (each_filter P test xs each.1)

-- rules along numbers, and along the numbers behind them
pub first_append : (f : ℕ → Option Refusal) (k n m : ℕ) → first_along f (range_with_len k n) ≡ None → first_along f (range_with_len (k + n) m) ≡ None → first_along f (range_with_len k (n + m)) ≡ None
first_append f k zero m front back =
    let P : ℕ → ℕ → Type 0 = λ a b. first_along f (range_with_len a b) ≡ None in
    let place : k + 0 ≡ k = omega arith in
    let count : m ≡ 0 + m = omega arith in
    subst (P k) count (subst (λ a. P a m) place back)
first_append f k (suc n) m front back =
    let P : ℕ → ℕ → Type 0 = λ a b. first_along f (range_with_len a b) ≡ None in
    let place : k + suc n ≡ k + 1 + n = omega arith in
    let count : suc (n + m) ≡ suc n + m = omega arith in
    let later : first_along f (range_with_len (k + 1) n) ≡ None = none_later (f k) (first_along f (range_with_len (k + 1) n)) front in
    let rest = first_append f (k + 1) n m later (subst (λ a. P a m) place back) in
    subst (P k) count
    (both_none (f k) (first_along f (range_with_len (k + 1) (n + m))) (none_first (f k) (first_along f (range_with_len (k + 1) n)) front) rest)

pub each_weaken : {A : Type 0} (P Q : A → Type 0) (xs : List A) → ((x : A) → P x → Q x) → Each P xs → Each Q xs
each_weaken P Q [] so each = tt
each_weaken P Q (x ∷ xs) so each = (so x each.0, each_weaken P Q xs so each.1)
