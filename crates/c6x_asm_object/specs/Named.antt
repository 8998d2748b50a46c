-- The names that are kept beside the sections and symbols of a text are theirs.
use Rattle.std.specs.Prelude.{◌≡◌, ℕ, List, map}
use Rattle.c6x_asm_lines.specs.Bytes.{bytes_at}
use Rattle.c6x_asm_object.specs.declared.asm_section.AsmSection.{AsmSection}
use Rattle.c6x_asm_object.specs.declared.symbols.Symbols.{Symbols}
use Rattle.c6x_asm_object.specs.Symbols.{symbol_name, names_total}

abbrev pub section_name : List ℕ → AsmSection → List ℕ
section_name text p = bytes_at text p.at p.len

abbrev pub section_names : List ℕ → List AsmSection → List (List ℕ)
section_names text sections = map (section_name text) sections

pub record AreNamed (text : List ℕ) (symbols : Symbols) : Type 0 where
  pub names : symbols.names ≡ map (symbol_name text) symbols.list.items
  pub total : symbols.names_len ≡ names_total text symbols.list.items
