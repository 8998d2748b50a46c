use Rattle.std.specs.Prelude.{◌≡◌, ℕ, ◌≤◌, List, drop, Option, Some}

-- Of the bytes that a reader had left, a first part of at most this many has left it.
pub record GivesFront (left : List ℕ) (most : ℕ) (now : Option (List ℕ)) : Type 0 where
  pub count : ℕ
  pub within : count ≤ most
  pub rest : now ≡ Some (drop count left)
