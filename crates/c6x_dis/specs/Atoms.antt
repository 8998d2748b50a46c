-- What a line is written of, one after the other: this project's own syntax (docs/ASSEMBLY.md).
use Rattle.std.specs.Prelude.{ℕ, List, [], ◌∷◌, ◌++◌}

-- the bytes of one token, or a blank between two
pub data Atom : Type 0 where
  word number : List ℕ → Atom
  punctuator : ℕ → Atom
  space : Atom

abbrev pub atom_bytes : Atom → List ℕ
atom_bytes (word bs) = bs
atom_bytes (number bs) = bs
atom_bytes (punctuator b) = b ∷ []
atom_bytes space = 32 ∷ []

abbrev pub bytes_of : List Atom → List ℕ
bytes_of [] = []
bytes_of (a ∷ atoms) = atom_bytes a ++ bytes_of atoms
