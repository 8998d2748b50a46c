-- Names as a set of slices finds and keeps them.
use Rattle.std.proofs.Common.{◌≡◌, ℕ, suc, ◌+◌, ◌∷◌, ◌++◌, [], List, Bool, true, false, not, cond, nat_lt, nat_eq, length, map, None, Some, position, Bor, refl, sym, ap, ◌∙◌, if◌then◌else◌, arith}
use Rattle.std.proofs.lemmas.Bool.Decides.{nat_tests}
use Rattle.std.proofs.lemmas.List.{length-map, map-append}
use Rattle.std.proofs.lemmas.Cmp.{nat_list_eq_equiv}
use Rattle.std.specs.Cmp.Lexicographic.{pointwise}
use Rattle.std.specs.List.{position_or_len, list_any}
use Rattle.std.specs.Str.{bytes_eq}
use Rattle.c6x_symbols.specs.Names.{name_at, bytes_of_each}

place_along : {A B : Type 0} (p : B → Bool) (f : A → B) (xs : List A) → position_or_len p (map f xs) ≡ position_or_len (λ x. p (f x)) xs
place_along p f [] = refl
place_along p f (x ∷ xs) = ap (λ n. cond (not (p (f x))) (1 + n) 0) (place_along p f xs)

pub position_along : {A B : Type 0} (p : B → Bool) (f : A → B) (xs : List A) → position p (map f xs) ≡ position (λ x. p (f x)) xs
position_along p f xs = rw (place_along p f xs, length-map xs f) refl

-- a name stands where a slice of its bytes does
pub place_of_slice : (slices : List (Bor (List ℕ))) (name : List ℕ) → position (λ s. pointwise nat_eq name s.now) slices ≡ name_at (bytes_of_each slices) name
unfolding name_at
place_of_slice slices name = (λ i. position (λ s. nat_list_eq_equiv.symm name s.now i) slices) ∙ sym (position_along (λ n. bytes_eq n name) (λ s. s.now) slices)

lt_first : (n : ℕ) → nat_lt 0 (suc n) ≡ true
lt_first n = grind (arith, nat_tests)

lt_more : (a b : ℕ) → nat_lt (1 + a) (suc b) ≡ nat_lt a b
lt_more a b = grind (arith, nat_tests)

-- a place is found where some element passes
found_any : {A : Type 0} (p : A → Bool) (xs : List A) → nat_lt (position_or_len p xs) (length xs) ≡ list_any p xs
found_any p [] = refl
found_any p (x ∷ xs) = either (found_any p xs) (p x) refl
  where
    either : nat_lt (position_or_len p xs) (length xs) ≡ list_any p xs → (b : Bool) → p x ≡ b → nat_lt (position_or_len p (x ∷ xs)) (length (x ∷ xs)) ≡ list_any p (x ∷ xs)
    either rest true is = rw is (lt_first (length xs))
    either rest false is = rw is (lt_more (position_or_len p xs) (length xs) ∙ rest)

pub none_found : {A : Type 0} (p : A → Bool) (xs : List A) → position p xs ≡ None → list_any p xs ≡ false
none_found p xs none = either (nat_lt (position_or_len p xs) (length xs)) refl
  where
    either : (b : Bool) → nat_lt (position_or_len p xs) (length xs) ≡ b → list_any p xs ≡ false
    either true is = absurd (cc)
    either false is = sym (found_any p xs) ∙ is

pub some_found : {A : Type 0} (p : A → Bool) (xs : List A) (i : ℕ) → position p xs ≡ Some i → list_any p xs ≡ true
some_found p xs i some = either (nat_lt (position_or_len p xs) (length xs)) refl
  where
    either : (b : Bool) → nat_lt (position_or_len p xs) (length xs) ≡ b → list_any p xs ≡ true
    either true is = sym (found_any p xs) ∙ is
    either false is = absurd (cc)

-- a name that is not there goes to the end
pub name_added : (slices : List (Bor (List ℕ))) (slice : Bor (List ℕ)) → name_at (bytes_of_each slices) slice.now ≡ None
    → bytes_of_each (if list_any (λ s. pointwise nat_eq slice.now s.now) slices then slices else slices ++ slice ∷ []) ≡ bytes_of_each slices ++ slice.now ∷ []
name_added slices slice absent =
    let none : list_any (λ s. pointwise nat_eq slice.now s.now) slices ≡ false = none_found (λ s. pointwise nat_eq slice.now s.now) slices (place_of_slice slices slice.now ∙ absent) in
    rw none (map-append (λ s. s.now) slices (slice ∷ []))
