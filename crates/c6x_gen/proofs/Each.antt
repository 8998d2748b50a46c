-- Lists over numbers grow at their end.
use Rattle.std.proofs.Common.{◌≡◌, ℕ, ◌+◌, List, [], ◌++◌, refl, add-one, append_assoc, append-nil, sym, ◌∙◌, ap}
use Rattle.c6x_gen.specs.Lists.{each_below}

pub none : {X : Type 0} (f : ℕ → List X) → each_below 0 f ≡ []
unfolding each_below
none f = refl

pub more : {X : Type 0} (n : ℕ) (f : ℕ → List X) → each_below (n + 1) f ≡ each_below n f ++ f n
unfolding each_below
more n f = rw add-one refl

pub more_behind : {X : Type 0} (front : List X) (n : ℕ) (f : ℕ → List X) → front ++ each_below (n + 1) f ≡ (front ++ each_below n f) ++ f n
more_behind front n f = ap (λ all. front ++ all) (more n f) ∙ sym (append_assoc front (each_below n f) (f n))

pub none_behind : {X : Type 0} (front : List X) (f : ℕ → List X) → front ++ each_below 0 f ≡ front
none_behind front f = ap (λ all. front ++ all) (none f) ∙ append-nil front
