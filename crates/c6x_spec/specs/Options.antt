use Rattle.std.specs.Prelude.{Option, None, Some}

-- What follows from a value, where there is one.
infixl 10 ◌>>=◌
abbrev pub ◌>>=◌ : {A B : Type 0} → Option A → (A → Option B) → Option B
None >>= next = None
(Some value) >>= next = next value
