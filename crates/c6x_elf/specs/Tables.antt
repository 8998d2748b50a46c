-- What read form says of each section, table and entry of a file, in the terms of the gABI (chapter 4, "Section
-- Header", "Symbol Table", "Relocation" and "String Table").
use Rattle.std.specs.Prelude.{◌≡◌, ◌≢◌, ℕ, ◌+◌, ◌%◌, ◌<◌, ◌≤◌, ◌⊎◌, All, Bool, IsSome, IsTrue, List, length, sum_by}
use Rattle.c6x_base.specs.declared.limits.TheConstants.{MOST_HELD_BYTES, MOST_SECTIONS, MOST_SEGMENTS}
use Rattle.c6x_elf_headers.specs.Attributes.{rela_symbol}
use Rattle.c6x_elf_headers.specs.Entries.{rela_entries, symbol_entries}
use Rattle.c6x_elf_headers.specs.Names.{name_of}
use Rattle.c6x_elf_headers.specs.declared.abi.TheConstants.{SHN_LORESERVE}
use Rattle.c6x_elf_headers.specs.declared.rela_entry.Rela.{Rela}
use Rattle.c6x_elf_headers.specs.declared.symbol_entry.Symbol.{Symbol}
use Rattle.c6x_elf_headers.specs.Header.{is_file_type, is_none_or_below}
use Rattle.c6x_elf.specs.Entries.{symbols_in, text_of}
use Rattle.c6x_elf.specs.Form.{IsSized, section_length, segment_length}
use Rattle.c6x_elf.specs.Parts.{is_relocation_table, is_symbol_table}
use Rattle.c6x_elf.specs.declared.file.File.{File}
use Rattle.c6x_elf.specs.declared.section.Section.{Section}

-- A symbol has a name in the strings that its table links to, and is in a section of the file or in none.
pub record IsSymbolOf (sections : List Section) (table : Section) (symbol : Symbol) : Type 0 where
  pub named : IsSome (name_of (text_of sections table.link) symbol.name)
  pub placed : (SHN_LORESERVE ≤ symbol.section) ⊎ (symbol.section < length sections)

-- A relocation entry names a symbol of the table that its own table links to.
pub record IsRelaOf (sections : List Section) (table : Section) (rela : Rela) : Type 0 where
  pub symbol : rela_symbol rela < symbols_in sections table.link

-- A symbol table: whole entries of 16 bytes, linked to a section.
pub record IsSymbolTable (big : Bool) (sections : List Section) (table : Section) : Type 0 where
  pub linked : table.link < length sections
  pub sized : table.entsize ≡ 16
  pub whole : length table.bytes % 16 ≡ 0
  pub symbols : All (IsSymbolOf sections table) (symbol_entries big table.bytes)

-- A relocation table: whole entries of 12 bytes, linked to a section, about a section.
pub record IsRelaTable (big : Bool) (sections : List Section) (table : Section) : Type 0 where
  pub linked : table.link < length sections
  pub about : table.info < length sections
  pub sized : table.entsize ≡ 12
  pub whole : length table.bytes % 12 ≡ 0
  pub relas : All (IsRelaOf sections table) (rela_entries big table.bytes)

-- A section of a file: its name stands in the section of the names, if there is one, and a table is what its type says.
pub record IsSectionOf (big : Bool) (names : ℕ) (sections : List Section) (section : Section) : Type 0 where
  pub named : names ≢ 0 → IsSome (name_of (text_of sections names) section.name)
  pub symbols : IsTrue (is_symbol_table section.kind) → IsSymbolTable big sections section
  pub relas : IsTrue (is_relocation_table section.kind) → IsRelaTable big sections section

-- A file is well formed: its counts and its bytes together are within the limits, and each section has its size and is
-- a section of the file.
pub record IsWellFormed (big : Bool) (file : File) : Type 0 where
  pub kind : IsTrue (is_file_type file.kind)
  pub segments : length file.segments ≤ MOST_SEGMENTS
  pub sections : length file.sections ≤ MOST_SECTIONS
  pub names : IsTrue (is_none_or_below file.names (length file.sections))
  pub held : sum_by segment_length file.segments + sum_by section_length file.sections ≤ MOST_HELD_BYTES
  pub sized : All IsSized file.sections
  pub each : All (IsSectionOf big file.names file.sections) file.sections
