use Rattle.std.specs.Prelude.{List, [], ◌∷◌, Option, None, Some}

-- The first refusal of two, whatever a refusal is.
infixr 5 ◌<|>◌
abbrev pub ◌<|>◌ : {R : Type 0} → Option R → Option R → Option R
None <|> later = later
(Some refusal) <|> later = Some refusal

-- The first refusal along a list.
abbrev pub first_along : {A R : Type 0} → (A → Option R) → List A → Option R
first_along test [] = None
first_along test (x ∷ xs) = test x <|> first_along test xs
