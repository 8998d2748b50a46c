use Rattle.std.specs.Prelude.{Result, Ok, Err}

-- What follows from a value, where no error came before.
infixl 10 ◌>>=◌
abbrev pub ◌>>=◌ : {A B E : Type 0} → Result A E → (A → Result B E) → Result B E
(Err error) >>= next = Err error
(Ok value) >>= next = next value
