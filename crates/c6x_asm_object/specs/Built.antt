-- The sections of an object file so far.
use Rattle.std.specs.Prelude.{ℕ, List}
use Rattle.c6x_elf.specs.declared.section.Section.{Section}

-- the sections, and the bytes of their names
pub record Built : Type 0 where
  pub sections : List Section
  pub names : List ℕ

abbrev pub built : List Section → List ℕ → Built
built sections names = record { sections = sections; names = names }
