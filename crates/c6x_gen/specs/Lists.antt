-- Lists over numbers, in their order.
use Rattle.std.specs.Prelude.{ℕ, ◌+◌, List, [], ◌∷◌, ◌++◌, zero, suc}

-- What `f` gives at 0, at 1 and so on, `count` times, one behind the other.
unfoldable pub each_below : {X : Type 0} → ℕ → (ℕ → List X) → List X
each_below zero f = []
each_below (suc last) f = each_below last f ++ f last

-- One for each library: libraries count from 1 to 11.
abbrev pub each_library : {X : Type 0} → (ℕ → X) → List X
each_library f = each_below 11 (λ before. f (before + 1) ∷ [])

-- One for each process: processes count from 0 to 7.
abbrev pub each_process : {X : Type 0} → (ℕ → X) → List X
each_process f = each_below 8 (λ number. f number ∷ [])
