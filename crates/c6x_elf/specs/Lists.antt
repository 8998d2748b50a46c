-- A file's symbols and names as lists (gABI chapter 4, "Symbol Table" and "String Table").
use Rattle.std.specs.Prelude.{◌≡◌, ◌++◌, ℕ, ◌==◌, ◌&&◌, Bool, true, List, [], ◌∷◌, Option, None, Some, drop, length, position, take, unwrap_or, if◌then◌else◌}
use Rattle.std.specs.Str.{bytes_eq}
use Rattle.c6x_elf_headers.specs.Entries.{symbol_entries}
use Rattle.c6x_elf_headers.specs.Names.{name_of}
use Rattle.c6x_elf_headers.specs.declared.abi.TheConstants.{SHT_SYMTAB}
use Rattle.c6x_elf_headers.specs.declared.symbol_entry.Symbol.{Symbol}
use Rattle.c6x_elf.specs.Entries.{text_of}
use Rattle.c6x_elf.specs.declared.section.Section.{Section}

abbrev pub is_symtab : Section → Bool
is_symtab section = section.kind == SHT_SYMTAB

-- The number of the first section of type SYMTAB.
unfoldable pub symtab_of : List Section → Option ℕ
symtab_of sections = position is_symtab sections

-- A file's symbols are those of its first symbol table.
abbrev pub symbols_from : Bool → List Section → Option ℕ → List Symbol
symbols_from big sections None = []
symbols_from big sections (Some number) = symbol_entries big (text_of sections number)

unfoldable pub symbols_of : Bool → List Section → List Symbol
symbols_of big sections = symbols_from big sections (symtab_of sections)

-- A section's name, where `names` is the number of the section of the names; with 0 all names are empty.
unfoldable pub section_name : ℕ → List Section → Section → List ℕ
section_name names sections section =
    if names == 0 then [] else unwrap_or (name_of (text_of sections names) section.name) []

-- A name is this one, or begins with it and a dot.
abbrev pub is_end : List ℕ → Bool
is_end [] = true
is_end (byte ∷ bytes) = byte == 46

unfoldable pub is_under : List ℕ → List ℕ → Bool
is_under front name = bytes_eq (take (length front) name) front && is_end (drop (length front) name)

-- The same as a relation.
pub data IsUnder : List ℕ → List ℕ → Type 0 where
  itself : {front name : List ℕ} → name ≡ front → IsUnder front name
  dotted : {front name : List ℕ} (rest : List ℕ) → name ≡ front ++ 46 ∷ rest → IsUnder front name
