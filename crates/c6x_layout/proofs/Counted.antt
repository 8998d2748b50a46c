-- What passes a test counted, one item on.
use Rattle.std.proofs.Common.{◌≡◌, ℕ, ◌+◌, ◌<◌, ◌≤◌, Bool, true, false, List, length, take, get_or, ap, ◌∙◌, arith, length-append, if◌then◌else◌}
use Rattle.std.proofs.lemmas.List.{take_all}
use Rattle.std.proofs.lemmas.List.Filters.{length-filter_more}
use Rattle.std.specs.List.{enumerate_from, filter, flat_map}
use Rattle.c6x_symbols.proofs.Numbered.{numbered_alone}

pub count_more : {A : Type 0} (test : A → Bool) (xs : List A) (i : ℕ) (d : A) (count one : ℕ) → i < length xs → one ≡ (if test (get_or xs i d) then 1 else 0) → count ≡ length (filter test (take i xs)) → count + one ≡ length (filter test (take (i + 1) xs))
count_more test xs i d count one below is was = omega (arith, length-filter_more test xs i d below, is, was)

pub count_all : {A : Type 0} (test : A → Bool) (xs : List A) (i count : ℕ) → length xs ≤ i → count ≡ length (filter test (take i xs)) → count ≡ length (filter test xs)
count_all test xs i count past was = was ∙ ap (λ ys. length (filter test ys)) (take_all i xs past)

pub count_if : (b : Bool) (one : ℕ) → one ≡ (if b then 1 else 0) → one ≤ 1
count_if true one is = omega arith
count_if false one is = omega arith

pub numbered_count : {X A : Type 0} (f : ℕ × X → List A) (xs : List X) (i : ℕ) (d : X) (count more : ℕ) → i < length xs → more ≡ length (f (i, get_or xs i d)) → count ≡ length (flat_map f (enumerate_from 0 (take i xs))) → count + more ≡ length (flat_map f (enumerate_from 0 (take (i + 1) xs)))
numbered_count f xs i d count more below is was =
    let all = ap length (numbered_alone f xs i d below) ∙ length-append (flat_map f (enumerate_from 0 (take i xs))) (f (i, get_or xs i d)) in
    omega (arith, all, is, was)

pub numbered_next : {X A : Type 0} (f : ℕ × X → List A) (xs : List X) (i : ℕ) (x : X) (count more : ℕ) → i < length xs → x ≡ get_or xs i x → more ≡ length (f (i, x)) → count ≡ length (flat_map f (enumerate_from 0 (take i xs))) → count + more ≡ length (flat_map f (enumerate_from 0 (take (i + 1) xs)))
numbered_next f xs i x count more below same is was =
    numbered_count f xs i x count more below (is ∙ ap (λ y. length (f (i, y))) same) was
