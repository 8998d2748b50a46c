-- A list without what stood in it before.
use Rattle.std.specs.Prelude.{not, Bool, List, [], ◌∷◌, filter}

abbrev pub is_other : {A : Type 0} → (A → A → Bool) → A → A → Bool
is_other same x y = not (same y x)

-- Each item at its first place: the first one, and then the others of the rest.
abbrev pub firsts : {A : Type 0} → (A → A → Bool) → List A → List A
firsts same [] = []
firsts same (x ∷ xs) = x ∷ filter (is_other same x) (firsts same xs)
