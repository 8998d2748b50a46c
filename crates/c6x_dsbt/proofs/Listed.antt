-- What each numbered item of a list is.
use Rattle.std.proofs.Common.{◌≡◌, ℕ, ◌+◌, ◌<◌, List, [], ◌∷◌, ◌++◌, length, take, get_or, map, ap, ◌∙◌}
use Rattle.std.proofs.lemmas.List.{map-append}
use Rattle.std.specs.List.{enumerate_from}
use Rattle.c6x_symbols.proofs.Numbered.{enumerate_more}

pub numbered_map_more : {X A : Type 0} (f : ℕ × X → A) (xs : List X) (i : ℕ) (d : X) → i < length xs → map f (enumerate_from 0 (take (i + 1) xs)) ≡ map f (enumerate_from 0 (take i xs)) ++ f (i, get_or xs i d) ∷ []
numbered_map_more f xs i d below =
    ap (map f) (enumerate_more xs i d below) ∙ map-append f (enumerate_from 0 (take i xs)) ((i, get_or xs i d) ∷ [])
