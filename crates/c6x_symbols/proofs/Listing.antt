-- The names of mentions in order of first appearance, with one more.
use Rattle.std.proofs.Common.{◌≡◌, ℕ, Bool, true, false, List, [], ◌∷◌, ◌++◌, not, filter, refl, sym, ap, ◌∙◌, if◌then◌else◌, rules}
use Rattle.std.proofs.lemmas.Slice.Eq.{bytes_eq-Decides}
use Rattle.std.proofs.lemmas.List.{append-nil}
use Rattle.std.proofs.lemmas.List.Elements.{filter-append}
use Rattle.std.specs.List.{list_any}
use Rattle.std.specs.Str.{bytes_eq}
use Rattle.c6x_symbols.specs.Groups.{is_other, names_of}
use Rattle.c6x_symbols.specs.Mentions.{Named}

pub same_bytes : (a b : List ℕ) → bytes_eq a b ≡ true → a ≡ b
same_bytes a b is = search (rules, bytes_eq-Decides)

pub self_bytes : (a : List ℕ) → bytes_eq a a ≡ true
self_bytes a = search (rules, bytes_eq-Decides)

apart : (a b : List ℕ) → bytes_eq b a ≡ false → bytes_eq a b ≡ false
apart a b differ = either (bytes_eq a b) refl
  where
    either : (t : Bool) → bytes_eq a b ≡ t → bytes_eq a b ≡ false
    either true is =
        let same : bytes_eq b a ≡ true = ap (bytes_eq b) (same_bytes a b is) ∙ self_bytes b in
        absurd (cc (same, differ))
    either false is = is

-- a name is among these
abbrev pub is_name : List ℕ → List ℕ → Bool
is_name q n = bytes_eq n q

abbrev pub with_name : Bool → List (List ℕ) → List ℕ → List (List ℕ)
with_name true names name = names
with_name false names name = names ++ name ∷ []

-- leaving out one name leaves every other one
any_other : (y q : List ℕ) (ns : List (List ℕ)) → bytes_eq y q ≡ false → list_any (is_name q) (filter (is_other y) ns) ≡ list_any (is_name q) ns
any_other y q [] differ = refl
any_other y q (n ∷ ns) differ = either (bytes_eq n y) refl (any_other y q ns differ)
  where
    either : (b : Bool) → bytes_eq n y ≡ b → list_any (is_name q) (filter (is_other y) ns) ≡ list_any (is_name q) ns → list_any (is_name q) (filter (is_other y) (n ∷ ns)) ≡ list_any (is_name q) (n ∷ ns)
    either true is rest =
        let out : bytes_eq n q ≡ false = ap (λ x. bytes_eq x q) (same_bytes n y is) ∙ differ in
        rw (is, out) rest
    either false is rest = rw (is, rest) refl

pub names_push : (xs : List Named) (x : Named) → names_of (xs ++ x ∷ []) ≡ with_name (list_any (is_name x.0) (names_of xs)) (names_of xs) x.0
names_push [] x = refl
names_push (y ∷ xs) x = ap (λ ns. y.0 ∷ filter (is_other y.0) ns) (names_push xs x) ∙ step (bytes_eq y.0 x.0) refl (list_any (is_name x.0) (names_of xs)) refl
  where
    step : (b : Bool) → bytes_eq y.0 x.0 ≡ b → (c : Bool) → list_any (is_name x.0) (names_of xs) ≡ c
        → (y.0 ∷ filter (is_other y.0) (with_name (list_any (is_name x.0) (names_of xs)) (names_of xs) x.0))
        ≡ with_name (list_any (is_name x.0) (y.0 ∷ filter (is_other y.0) (names_of xs))) (y.0 ∷ filter (is_other y.0) (names_of xs)) x.0
    step true same true any = rw (any, same) refl
    step true same false any =
        let out : bytes_eq x.0 y.0 ≡ true = ap (bytes_eq x.0) (same_bytes y.0 x.0 same) ∙ self_bytes x.0 in
        rw (any, same) (ap (λ ns. y.0 ∷ ns) (filter-append (is_other y.0) (names_of xs) (x.0 ∷ []) ∙ rw out (append-nil (filter (is_other y.0) (names_of xs)))))
    step false differ true any = rw (any, differ, any_other y.0 x.0 (names_of xs) differ, any) refl
    step false differ false any =
        let out : bytes_eq x.0 y.0 ≡ false = apart x.0 y.0 differ in
        rw (any, differ, any_other y.0 x.0 (names_of xs) differ, any) (ap (λ ns. y.0 ∷ ns) (filter-append (is_other y.0) (names_of xs) (x.0 ∷ []) ∙ rw out refl))
