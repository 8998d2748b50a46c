-- Zeros one behind the other.
use Rattle.std.proofs.Common.{◌≡◌, ℕ, ◌+◌, List, [], ◌∷◌, ◌++◌, replicate, sym, ◌∙◌, ap}
use Rattle.std.proofs.lemmas.List.{append_assoc, append-nil, replicate-append-replicate}

pub zeros_none : (xs : List ℕ) → xs ≡ xs ++ replicate 0 0
zeros_none xs = sym (append-nil xs)

pub zeros_more : (xs : List ℕ) (n : ℕ) → (xs ++ replicate n 0) ++ 0 ∷ [] ≡ xs ++ replicate (n + 1) 0
zeros_more xs n = append_assoc xs (replicate n 0) (0 ∷ []) ∙ ap (λ zs. xs ++ zs) (replicate-append-replicate n 1 0)
