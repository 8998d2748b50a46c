use Rattle.std.specs.Prelude.{◌≡◌, ℕ, ◌≤◌, List, ◌++◌, Option, length, take}
use Rattle.std.specs.Option.{option_map}

-- A sink took these bytes behind what it had, where it tells what it had.
pub record Takes (bytes : List ℕ) (before now : Option (List ℕ)) : Type 0 where
  pub appended : now ≡ option_map (λ had. had ++ bytes) before

-- A sink took a first part of these bytes behind what it had.
pub record TakesFront (bytes : List ℕ) (before now : Option (List ℕ)) : Type 0 where
  pub count : ℕ
  pub within : count ≤ length bytes
  pub appended : now ≡ option_map (λ had. had ++ take count bytes) before
