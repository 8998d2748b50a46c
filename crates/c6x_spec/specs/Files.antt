use Rattle.std.specs.Prelude.{ℕ, ◌+◌, ◌-◌, ◌^◌, ◌≤◌, List, [], ◌∷◌, Option, None, Some, take, min, if◌then◌else◌}
use Rattle.std.specs.Option.{option_map}
use Rattle.std.specs.Str.{bytes_eq}

-- A told shelf: names with their bytes.
abbrev pub Files : Type 0
Files = List (List ℕ × List ℕ)

-- The bytes under a name.
abbrev pub file_at : Files → List ℕ → Option (List ℕ)
file_at [] name = None
file_at (file ∷ files) name = if bytes_eq file.0 name then Some file.1 else file_at files name

-- What a fetch of at most `most` bytes gives: the file's first `most + 1` bytes, so that a longer file shows.
unfoldable pub front_at : Files → List ℕ → ℕ → Option (List ℕ)
front_at files name most = option_map (take (most + 1)) (file_at files name)

-- The files with these bytes under the name: in its old place, else last.
abbrev pub stored : Files → List ℕ → List ℕ → Files
stored [] name bytes = (name, bytes) ∷ []
stored (file ∷ files) name bytes =
    if bytes_eq file.0 name then (name, bytes) ∷ files else file ∷ stored files name bytes

-- A count rose: it is greater, or it stands at its last value.
abbrev pub Rose : ℕ → ℕ → Type 0
Rose before now = min (before + 1) (2 ^ 64 - 1) ≤ now
