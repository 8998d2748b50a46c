-- Names by first appearance: what one more name adds, and that a look-up finds each.
use Rattle.std.proofs.Common.{◌≡◌, ℕ, ◌+◌, ◌<◌, ◌≤◌, Bool, true, false, not, ◌||◌, List, [], ◌∷◌, ◌++◌, length, map, Some, None, refl, sym, ◌∙◌, ap, arith, append_assoc, append-nil, cond, get_or, nat_lt, position}
use Rattle.std.specs.Prelude.{if◌then◌else◌}
use Rattle.std.specs.List.{list_any, position_or_len}
use Rattle.std.specs.Str.{bytes_eq}
use Rattle.std.proofs.lemmas.Bool.{true≢false}
use Rattle.std.proofs.lemmas.Bool.Decides.{nat_tests}
use Rattle.std.proofs.lemmas.List.{length-map}
use Rattle.std.proofs.lemmas.List.Folds.{list_any-append, list_any_at}
use Rattle.std.proofs.lemmas.Slice.Eq.{bytes_eq-Decides}
use Rattle.c6x_asm.specs.Sections.{firsts, is_among}

pub either_way : (b : Bool) (x : List ℕ) (more rest end : List (List ℕ)) → more ≡ rest ++ end → (if b then more else x ∷ more) ≡ (if b then rest else x ∷ rest) ++ end
either_way true x more rest end is = is
either_way false x more rest end is = ap (λ xs. x ∷ xs) is

-- one more name
pub firsts_push : (before names : List (List ℕ)) (n : List ℕ) → firsts before (names ++ n ∷ []) ≡ firsts before names ++ (if is_among (before ++ names) n then [] else n ∷ [])
firsts_push before [] n = ap (λ xs. if is_among xs n then [] else n ∷ []) (sym (append-nil before))
firsts_push before (m ∷ names) n =
    either_way (is_among before m) m (firsts (before ++ m ∷ []) (names ++ n ∷ [])) (firsts (before ++ m ∷ []) names) (if is_among (before ++ m ∷ names) n then [] else n ∷ [])
    (firsts_push (before ++ m ∷ []) names n ∙ ap (λ xs. firsts (before ++ m ∷ []) names ++ (if is_among xs n then [] else n ∷ [])) (append_assoc before (m ∷ []) names))

or_assoc : (a b c : Bool) → (a || (b || c)) ≡ ((a || b) || c)
or_assoc true b c = refl
or_assoc false b c = refl

-- a name that has stood before adds nothing
or_same : (a b c : Bool) → (b ≡ true → a ≡ true) → (a || b) || c ≡ a || c
or_same true b c is = refl
or_same false true c is = absurd (true≢false (sym (is refl)))
or_same false false c is = refl

or_last : (a b : Bool) → (a || (b || false)) ≡ (a || b)
or_last a true = refl
or_last a false = refl

same_name : (before : List (List ℕ)) (m n : List ℕ) → is_among before m ≡ true → bytes_eq m n ≡ true → is_among before n ≡ true
same_name before m n is same = ap (is_among before) (sym ((bytes_eq-Decides m n).0 same)) ∙ is

among_push : (before : List (List ℕ)) (m n : List ℕ) → is_among (before ++ m ∷ []) n ≡ (is_among before n || bytes_eq m n)
among_push before m n = list_any-append (λ x. bytes_eq x n) before (m ∷ []) ∙ or_last (is_among before n) (bytes_eq m n)

among_firsts : (before names : List (List ℕ)) (n : List ℕ) → (is_among before n || is_among (firsts before names) n) ≡ is_among (before ++ names) n
among_firsts before [] n = or_false (is_among before n) ∙ ap (λ xs. is_among xs n) (sym (append-nil before))
  where
    or_false : (b : Bool) → (b || false) ≡ b
    or_false true = refl
    or_false false = refl
among_firsts before (m ∷ names) n =
    by (is_among before m) refl ∙ among_firsts (before ++ m ∷ []) names n ∙ ap (λ xs. is_among xs n) (append_assoc before (m ∷ []) names)
  where
    by : (b : Bool) → is_among before m ≡ b → (is_among before n || is_among (if b then firsts (before ++ m ∷ []) names else m ∷ firsts (before ++ m ∷ []) names) n) ≡ (is_among (before ++ m ∷ []) n || is_among (firsts (before ++ m ∷ []) names) n)
    by true is = sym (ap (λ b. b || is_among (firsts (before ++ m ∷ []) names) n) (among_push before m n) ∙ or_same (is_among before n) (bytes_eq m n) (is_among (firsts (before ++ m ∷ []) names) n) (λ same. same_name before m n is same))
    by false is =
        or_assoc (is_among before n) (bytes_eq m n) (is_among (firsts (before ++ m ∷ []) names) n)
        ∙ ap (λ b. b || is_among (firsts (before ++ m ∷ []) names) n) (sym (among_push before m n))

-- a name is among the first appearances where it appears
pub among_all : (names : List (List ℕ)) (n : List ℕ) → is_among (firsts [] names) n ≡ is_among names n
among_all names n = among_firsts [] names n

-- a look-up that finds none
none_past : {A : Type 0} (p : A → Bool) (xs : List A) → length xs ≤ position_or_len p xs → list_any p xs ≡ false
none_past p [] past = refl
none_past p (x ∷ xs) past = by (p x) past (λ less. none_past p xs less)
  where
    by : (b : Bool) → length (x ∷ xs) ≤ cond (not b) (1 + position_or_len p xs) 0 → (length xs ≤ position_or_len p xs → list_any p xs ≡ false) → (b || list_any p xs) ≡ false
    by true past rest = absurd (omega arith)
    by false past rest = rest (omega arith)

pub none_found : {A : Type 0} (p : A → Bool) (xs : List A) → position p xs ≡ None → list_any p xs ≡ false
none_found p xs is = none_past p xs (by (nat_lt (position_or_len p xs) (length xs)) refl is)
  where
    by : (b : Bool) → nat_lt (position_or_len p xs) (length xs) ≡ b → cond b (Some (position_or_len p xs)) None ≡ None → length xs ≤ position_or_len p xs
    by true test none = absurd (cc)
    by false test none = grind (arith, nat_tests)

any_map : {A : Type 0} (f : A → List ℕ) (q : List ℕ → Bool) (xs : List A) → list_any q (map f xs) ≡ list_any (λ x. q (f x)) xs
any_map f q [] = refl
any_map f q (x ∷ xs) = ap (λ b. q (f x) || b) (any_map f q xs)

-- what is named so is not among the names
pub not_among : {A : Type 0} (f : A → List ℕ) (xs : List A) (n : List ℕ) → position (λ x. bytes_eq (f x) n) xs ≡ None → is_among (map f xs) n ≡ false
not_among f xs n is = any_map f (λ m. bytes_eq m n) xs ∙ none_found (λ x. bytes_eq (f x) n) xs is

-- what is named so is among them
pub found_among : {A : Type 0} (f : A → List ℕ) (xs : List A) (n : List ℕ) (i : ℕ) (d : A) → i < length xs → f (get_or xs i d) ≡ n → is_among (map f xs) n ≡ true
found_among f xs n i d inside is = any_map f (λ m. bytes_eq m n) xs ∙ list_any_at (λ x. bytes_eq (f x) n) xs i d inside ((bytes_eq-Decides (f (get_or xs i d)) n).1 is)

-- the place of a name among names is that of what it names
position_along : {A : Type 0} (f : A → List ℕ) (q : List ℕ → Bool) (xs : List A) → position_or_len q (map f xs) ≡ position_or_len (λ x. q (f x)) xs
position_along f q [] = refl
position_along f q (x ∷ xs) = ap (λ n. cond (not (q (f x))) (1 + n) 0) (position_along f q xs)

pub position_names : {A : Type 0} (f : A → List ℕ) (xs : List A) (n : List ℕ) → position (λ m. bytes_eq m n) (map f xs) ≡ position (λ x. bytes_eq (f x) n) xs
position_names f xs n = rw (position_along f (λ m. bytes_eq m n) xs, length-map xs f) refl
