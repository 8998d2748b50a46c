-- What a word names in a table: the first row of which it is the name.
use Rattle.std.specs.Prelude.{ℕ, Bool, List, Option, find}

abbrev pub first_named : {A : Type 0} → (A → List ℕ → Bool) → List A → List ℕ → Option A
first_named is_name rows word = find (λ row. is_name row word) rows
