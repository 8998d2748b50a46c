-- Lists that are read one by one.
use Rattle.std.proofs.Common.{◌≡◌, ℕ, ◌+◌, ◌<◌, ◌≤◌, List, [], ◌∷◌, ◌++◌, length, map, get_or, take, slice_get, sym, ap, ◌∙◌}
use Rattle.std.proofs.lemmas.List.{map-append, take_all, take_more}
use Rattle.std.specs.List.{enumerate_from}
use Rattle.c6x_symbols.proofs.Numbered.{enumerate_more}
use Rattle.c6x_link.specs.Sections.{one_of}
use Rattle.std.proofs.lemmas.Option.{slice_get-get_or}

pub taken_more : {A : Type 0} (xs : List A) (i : ℕ) (d : A) → i < length xs → take (i + 1) xs ≡ take i xs ++ one_of (slice_get xs i)
taken_more xs i d below = take_more xs i d below ∙ ap (λ o. take i xs ++ one_of o) (sym (slice_get-get_or xs i d below))

pub taken_all : {A : Type 0} (xs : List A) (i : ℕ) → length xs ≤ i → take i xs ≡ xs
taken_all xs i past = take_all i xs past

pub numbered_rows : {X Y : Type 0} (f : ℕ × X → Y) (xs : List X) (i : ℕ) (d : X) → i < length xs → map f (enumerate_from 0 (take (i + 1) xs)) ≡ map f (enumerate_from 0 (take i xs)) ++ f (i, get_or xs i d) ∷ []
numbered_rows f xs i d below = ap (map f) (enumerate_more xs i d below) ∙ map-append f (enumerate_from 0 (take i xs)) ((i, get_or xs i d) ∷ [])
