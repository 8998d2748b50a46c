use Rattle.std.specs.Prelude.{◌≡◌, ℕ, List, ◌++◌, length}

-- The file has these bytes at this place.
pub record Holds (bytes : List ℕ) (at : ℕ) (part : List ℕ) : Type 0 where
  pub front : List ℕ
  pub back : List ℕ
  pub split : bytes ≡ front ++ (part ++ back)
  pub place : length front ≡ at
