use Rattle.std.specs.Prelude.{◌≡◌, ℕ, not, List, Option, Some, filter}
use Rattle.std.specs.Str.{bytes_eq}
use Rattle.c6x_spec.specs.Files.{Files}

-- The files of other names, in their order.
abbrev pub others_of : List ℕ → Files → Files
others_of name files = filter (λ file. not (bytes_eq file.0 name)) files

-- The files are told afterwards, and those of other names are as they were. Nothing is said of this name.
pub record KeepsOthers (name : List ℕ) (before : Files) (after : Option Files) : Type 0 where
  pub files : Files
  pub told : after ≡ Some files
  pub kept : others_of name files ≡ others_of name before
