-- Words and stubs as they grow are the first places of all needs.
use Rattle.std.proofs.Common.{◌≡◌, ℕ, ◌+◌, ◌<◌, ◌||◌, nat_eq, not, Bool, true, false, List, [], ◌∷◌, ◌++◌, length, take, get_or, refl, sym, ap, ◌∙◌, cond, arith, if◌then◌else◌}
use Rattle.std.proofs.lemmas.Bool.Decides.{nat_tests}
use Rattle.std.proofs.lemmas.Grind.{flat_map-append, fold-append}
use Rattle.std.proofs.lemmas.List.{append-nil, take_more}
use Rattle.std.proofs.lemmas.List.Elements.{filter-append}
use Rattle.std.specs.List.{enumerate_from, filter, flat_map, fold, list_any}
use Rattle.c6x_symbols.proofs.Numbered.{numbered_alone}
use Rattle.c6x_dsbt.specs.Firsts.{firsts, is_other}
use Rattle.c6x_dsbt.specs.Growth.{with_stub, with_word}
use Rattle.c6x_dsbt.specs.Wanted.{same_wanted}
use Rattle.c6x_dsbt.specs.declared.wanted.Wanted.{Wanted}
use Rattle.c6x_dsbt.specs.declared.wanted.Wanted.TheVariants.{Bound, Local}

-- a loop that folds what each item needs, one item on
pub fold_more : {X A B : Type 0} (h : B → A → B) (f : X → List A) (b : B) (xs : List X) (i : ℕ) (d : X) → i < length xs → fold h b (flat_map f (take (i + 1) xs)) ≡ fold h (fold h b (flat_map f (take i xs))) (f (get_or xs i d))
fold_more h f b xs i d below =
    ap (fold h b) (ap (flat_map f) (take_more xs i d below) ∙ flat_map-append f (take i xs) (get_or xs i d ∷ []) ∙ ap (λ ys. flat_map f (take i xs) ++ ys) (append-nil (f (get_or xs i d))))
    ∙ fold-append h b (flat_map f (take i xs)) (f (get_or xs i d))

pub numbered_fold_more : {X A B : Type 0} (h : B → A → B) (f : ℕ × X → List A) (b : B) (xs : List X) (i : ℕ) (d : X) → i < length xs → fold h b (flat_map f (enumerate_from 0 (take (i + 1) xs))) ≡ fold h (fold h b (flat_map f (enumerate_from 0 (take i xs)))) (f (i, get_or xs i d))
numbered_fold_more h f b xs i d below =
    ap (fold h b) (numbered_alone f xs i d below) ∙ fold-append h b (flat_map f (enumerate_from 0 (take i xs))) (f (i, get_or xs i d))

-- what was dropped is not x either
dropped : {A : Type 0} (same : A → A → Bool) (x y z : A) (zs : List A) → ((a b : A) → same a b ≡ true → a ≡ b) → same x y ≡ false → (b : Bool) → same z y ≡ b → list_any (same x) (filter (is_other same y) zs) ≡ list_any (same x) zs → list_any (same x) (cond (not (same z y)) (z ∷ filter (is_other same y) zs) (filter (is_other same y) zs)) ≡ (same x z || list_any (same x) zs)
dropped same x y z zs sound other true is rest =
    let here : same x z ≡ false = ap (same x) (sound z y is) ∙ other in
    rw (is, here) rest
dropped same x y z zs sound other false is rest = rw is (ap (λ b. same x z || b) rest)

kept_any : {A : Type 0} (same : A → A → Bool) → ((a b : A) → same a b ≡ true → a ≡ b) → (x y : A) → same x y ≡ false → (zs : List A) → list_any (same x) (filter (is_other same y) zs) ≡ list_any (same x) zs
kept_any same sound x y other [] = refl
kept_any same sound x y other (z ∷ zs) =
    dropped same x y z zs sound other (same z y) refl (kept_any same sound x y other zs)

any_rest : {A : Type 0} (same : A → A → Bool) → ((a b : A) → same a b ≡ true → a ≡ b) → (x y : A) (ys : List A) (b : Bool) → same x y ≡ b → list_any (same x) (firsts same ys) ≡ list_any (same x) ys → (same x y || list_any (same x) (filter (is_other same y) (firsts same ys))) ≡ (same x y || list_any (same x) ys)
any_rest same sound x y ys true is rest = rw is refl
any_rest same sound x y ys false is rest = rw is (kept_any same sound x y is (firsts same ys) ∙ rest)

any_firsts : {A : Type 0} (same : A → A → Bool) → ((a b : A) → same a b ≡ true → a ≡ b) → (x : A) (ys : List A) → list_any (same x) (firsts same ys) ≡ list_any (same x) ys
any_firsts same sound x [] = refl
any_firsts same sound x (y ∷ ys) = any_rest same sound x y ys (same x y) refl (any_firsts same sound x ys)

push_one : {A : Type 0} (same : A → A → Bool) (x y : A) (zs : List A) → filter (is_other same y) (zs ++ x ∷ []) ≡ filter (is_other same y) zs ++ (if same x y then [] else x ∷ [])
push_one {A} same x y zs = filter-append (is_other same y) zs (x ∷ []) ∙ ap (λ ws. filter (is_other same y) zs ++ ws) (one (same x y))
  where
    one : (b : Bool) → cond (not b) (x ∷ []) [] ≡ (if b then [] else x ∷ [])
    one true = refl
    one false = refl

push_cases : {A : Type 0} (same : A → A → Bool) (x y : A) (ys : List A) (b any : Bool) → same x y ≡ b → y ∷ filter (is_other same y) (if any then firsts same ys else firsts same ys ++ x ∷ []) ≡ (if b || any then y ∷ filter (is_other same y) (firsts same ys) else y ∷ (filter (is_other same y) (firsts same ys) ++ x ∷ []))
push_cases same x y ys true true is = refl
push_cases same x y ys false true is = refl
push_cases same x y ys true false is =
    ap (λ zs. y ∷ zs) (push_one same x y (firsts same ys) ∙ rw is (append-nil (filter (is_other same y) (firsts same ys))))
push_cases same x y ys false false is = ap (λ zs. y ∷ zs) (push_one same x y (firsts same ys) ∙ rw is refl)

firsts_push : {A : Type 0} (same : A → A → Bool) (x : A) (ys : List A) → firsts same (ys ++ x ∷ []) ≡ (if list_any (same x) ys then firsts same ys else firsts same ys ++ x ∷ [])
firsts_push same x [] = refl
firsts_push same x (y ∷ ys) =
    ap (λ zs. y ∷ filter (is_other same y) zs) (firsts_push same x ys)
    ∙ push_cases same x y ys (same x y) (list_any (same x) ys) refl

append_one : {A : Type 0} (ys : List A) (x : A) (more : List A) → (ys ++ x ∷ []) ++ more ≡ ys ++ x ∷ more
append_one [] x more = refl
append_one (y ∷ ys) x more = ap (λ zs. y ∷ zs) (append_one ys x more)

-- the items with one more, if it is new
abbrev with_one : {A : Type 0} → (A → A → Bool) → List A → A → List A
with_one same ys x = if list_any (same x) ys then ys else ys ++ x ∷ []

one_grown : {A : Type 0} (same : A → A → Bool) → ((a b : A) → same a b ≡ true → a ≡ b) → (had : List A) (x : A) → with_one same (firsts same had) x ≡ firsts same (had ++ x ∷ [])
one_grown same sound had x =
    ap (λ b. if b then firsts same had else firsts same had ++ x ∷ []) (any_firsts same sound x had)
    ∙ sym (firsts_push same x had)

grown : {A : Type 0} (same : A → A → Bool) → ((a b : A) → same a b ≡ true → a ≡ b) → (had more : List A) → fold (with_one same) (firsts same had) more ≡ firsts same (had ++ more)
grown same sound had [] = ap (firsts same) (sym (append-nil had))
grown same sound had (x ∷ more) =
    ap (λ ys. fold (with_one same) ys more) (one_grown same sound had x) ∙ grown same sound (had ++ x ∷ []) more
    ∙ ap (firsts same) (append_one had x more)

wanted_sound : (a b : Wanted) → same_wanted a b ≡ true → a ≡ b
wanted_sound (Bound a) (Bound b) is = let e : a ≡ b = grind (arith, nat_tests) in ap Bound e
wanted_sound (Bound a) (Local object symbol) is = absurd (cc is)
wanted_sound (Local object symbol) (Bound b) is = absurd (cc is)
wanted_sound (Local o s) (Local p t) is = let e : o ≡ p = grind (arith, nat_tests) in let f : s ≡ t = grind (arith, nat_tests) in λ i. Local (e i) (f i)

number_sound : (a b : ℕ) → nat_eq a b ≡ true → a ≡ b
number_sound a b is = grind (arith, nat_tests)

pub words_folded : (needs : List Wanted) → fold with_word [] needs ≡ firsts same_wanted needs
words_folded needs = grown same_wanted wanted_sound [] needs

pub stubs_folded : (needs : List ℕ) → fold with_stub [] needs ≡ firsts nat_eq needs
stubs_folded needs = grown nat_eq number_sound [] needs
