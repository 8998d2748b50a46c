-- The text of a linked module, laid out of the bytes of its tables.
use Rattle.std.specs.Prelude.{◌≡◌, ℕ, ◌+◌, ◌^◌, ◌<◌, ◌≤◌, false, List, [], ◌∷◌, length}
use Rattle.c6x_elf.specs.EntryRows.{rela_rows, symbol_rows}
use Rattle.c6x_elf.specs.Laid.{Part}
use Rattle.c6x_elf.specs.Rows.{word_row}
use Rattle.c6x_layout.specs.File.{dynamic_bytes}
use Rattle.c6x_layout.specs.Hash.{hash_words}
use Rattle.c6x_layout.specs.Tables.{shared_names, strings_of, symbols_of}
use Rattle.c6x_layout.specs.declared.parts.Parts.{Parts}
use Rattle.c6x_layout.specs.declared.places.Places.{Places}
use Rattle.c6x_layout.specs.declared.tables.Tables.{Tables}

-- The parts, each in its place.
unfoldable pub parts_at : List ℕ → Tables → Places → List Part
parts_at code t p =
    record { at = 0; bytes = code } ∷ record { at = p.hash; bytes = t.hash }
    ∷ record { at = p.symbols; bytes = t.symbols } ∷ record { at = p.strings; bytes = t.strings }
    ∷ record { at = p.relas; bytes = t.relas } ∷ record { at = p.jumps; bytes = t.jumps }
    ∷ record { at = p.dynamic; bytes = t.dynamic } ∷ []

-- Each part ends before the next one begins.
pub record HaveRoom (bytes : List ℕ) (t : Tables) (p : Places) : Type 0 where
  pub code : length bytes ≤ p.hash
  pub hash : p.hash + length t.hash ≤ p.symbols
  pub symbols : p.symbols + length t.symbols ≤ p.strings
  pub strings : p.strings + length t.strings ≤ p.relas
  pub relas : p.relas + length t.relas ≤ p.jumps
  pub jumps : p.jumps + length t.jumps ≤ p.dynamic
  pub most : p.dynamic < 2 ^ 63

-- These are the tables of a module.
pub record AreTables (parts : Parts) (t : Tables) : Type 0 where
  pub hash : t.hash ≡ word_row false (hash_words (shared_names parts.shared))
  pub symbols : t.symbols ≡ symbol_rows false (symbols_of parts)
  pub strings : t.strings ≡ strings_of parts
  pub relas : t.relas ≡ rela_rows false parts.relas
  pub jumps : t.jumps ≡ rela_rows false parts.jumps
  pub dynamic : t.dynamic ≡ dynamic_bytes parts
