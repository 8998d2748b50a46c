-- Names in order.
use Rattle.std.specs.Prelude.{ℕ, List, map, Option, position}
use Rattle.std.specs.Borrow.{Bor}
use Rattle.std.specs.Str.{bytes_eq}

-- the place of a name among these
unfoldable pub name_at : List (List ℕ) → List ℕ → Option ℕ
name_at names name = position (λ n. bytes_eq n name) names

-- the bytes of each slice
abbrev pub bytes_of_each : List (Bor (List ℕ)) → List (List ℕ)
bytes_of_each slices = map (λ s. s.now) slices
