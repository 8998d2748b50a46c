-- The lines of the entries of a table from a number on, and of the members of a list.
use Rattle.std.proofs.Common.{◌≡◌, ℕ, ◌+◌, ◌-◌, ◌<◌, ◌≤◌, List, [], ◌++◌, drop, get_or, length, map, sym, ◌∙◌, ap}
use Rattle.std.proofs.lemmas.List.{drop_all, drop_more}
use Rattle.std.specs.List.{flat_map, range_with_len}
use Rattle.c6x_dis.proofs.Behind.{numbers_all, numbers_end, numbers_more}

pub lines_more : {A : Type 0} (line : A → List ℕ) (entry : ℕ → A) (number count : ℕ) (x : A) → number < count → x ≡ entry number → flat_map line (map entry (range_with_len number (count - number))) ≡ line x ++ flat_map line (map entry (range_with_len (number + 1) (count - (number + 1))))
lines_more line entry number count x below is =
    ap (λ numbers. flat_map line (map entry numbers)) (numbers_more number count below)
    ∙ ap (λ y. line y ++ flat_map line (map entry (range_with_len (number + 1) (count - (number + 1))))) (sym is)

pub lines_end : {A : Type 0} (line : A → List ℕ) (entry : ℕ → A) (number count : ℕ) → count ≤ number → flat_map line (map entry (range_with_len number (count - number))) ≡ []
lines_end line entry number count past = ap (λ numbers. flat_map line (map entry numbers)) (numbers_end number count past)

pub lines_all : {A : Type 0} (line : A → List ℕ) (entry : ℕ → A) (count : ℕ) → flat_map line (map entry (range_with_len 0 count)) ≡ flat_map line (map entry (range_with_len 0 (count - 0)))
lines_all line entry count = ap (λ numbers. flat_map line (map entry numbers)) (numbers_all count)

pub members_more : {A : Type 0} (line : A → List ℕ) (xs : List A) (i : ℕ) (x : A) → i < length xs → x ≡ get_or xs i x → flat_map line (drop i xs) ≡ line x ++ flat_map line (drop (i + 1) xs)
members_more line xs i x below is =
    ap (flat_map line) (drop_more xs i x below) ∙ ap (λ y. line y ++ flat_map line (drop (i + 1) xs)) (sym is)

pub members_end : {A : Type 0} (line : A → List ℕ) (xs : List A) (i : ℕ) → length xs ≤ i → flat_map line (drop i xs) ≡ []
members_end line xs i past = ap (flat_map line) (drop_all i xs past)
