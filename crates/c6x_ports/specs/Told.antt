use Rattle.std.specs.Prelude.{ℕ, ◌&&◌, Bool, true, not, List, [], ◌∷◌, map}
use Rattle.std.specs.List.{list_any}
use Rattle.std.specs.Str.{bytes_eq}
use Rattle.c6x_spec.specs.Files.{Files}
use Rattle.c6x_ports.specs.declared.stored.Stored.{Stored}

-- Stored files as pairs of a name and its bytes.
abbrev pub pairs_of : List Stored → Files
pairs_of files = map (λ (file : Stored). (file.name, file.bytes)) files

-- No two files have one name.
abbrev pub are_distinct : Files → Bool
are_distinct [] = true
are_distinct (file ∷ files) = not (list_any (λ other. bytes_eq other.0 file.0) files) && are_distinct files

-- The file has this name.
abbrev pub has_name : List ℕ → Stored → Bool
has_name name file = bytes_eq file.name name
