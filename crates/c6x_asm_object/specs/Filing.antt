-- The object file: the null section, the named ones in order of first appearance, their relocation tables, `.symtab`,
-- `.strtab`, `.shstrtab`.
use Rattle.std.specs.Prelude.{ℕ, ◌+◌, nat_le, Bool, if◌then◌else◌, List, [], ◌∷◌, ◌++◌, length, map, count_by, codes}
use Rattle.c6x_elf.specs.Abi.{ET_REL, SHT_RELA, SHT_STRTAB, SHT_SYMTAB}
use Rattle.c6x_elf.specs.declared.file.File.{File}
use Rattle.c6x_elf.specs.declared.section.Section.{Section}
use Rattle.c6x_asm_object.specs.Named.{section_name}
use Rattle.c6x_asm_object.specs.declared.asm_section.AsmSection.{AsmSection}
use Rattle.c6x_asm_object.specs.declared.symbol.Symbol.{Symbol}
use Rattle.c6x_asm_object.specs.Bindings.{is_local}
use Rattle.c6x_asm_object.specs.FormSymbols.{names_table, symbol_numbers, symbol_table}
use Rattle.c6x_asm_object.specs.Relocations.{relocation_rows}
use Rattle.c6x_asm_object.specs.Headers.{null_section, section_header, table_section}

-- a section and its name
pub record Named : Type 0 where
  pub name : List ℕ
  pub section : Section

abbrev pub named_section : List ℕ → AsmSection → Named
named_section text p = record { name = section_name text p; section = section_header p }

abbrev pub has_entries : AsmSection → Bool
has_entries p = nat_le 1 (length p.entries)

-- the number of `.symtab`
abbrev pub symtab_of : List AsmSection → ℕ
symtab_of sections = 1 + length sections + count_by has_entries sections

-- the relocation table of the section with this number
abbrev pub named_rela : List ℕ → List ℕ → ℕ → ℕ → AsmSection → Named
named_rela text numbers symtab number p = record {
  name = codes ".rela" ++ section_name text p;
  section = table_section SHT_RELA symtab number 4 12 (relocation_rows numbers p.entries);
}

-- those of the sections that have relocations, where the first section has this number
abbrev pub named_relas : List ℕ → List ℕ → ℕ → ℕ → List AsmSection → List Named
named_relas text numbers symtab number [] = []
named_relas text numbers symtab number (p ∷ sections) =
    if has_entries p then named_rela text numbers symtab number p ∷ named_relas text numbers symtab (number + 1) sections
    else named_relas text numbers symtab (number + 1) sections

-- `info` is the number of the first symbol that is not local
unfoldable pub named_symtab : List ℕ → List AsmSection → List Symbol → Named
named_symtab text sections symbols = record {
  name = codes ".symtab";
  section =
      table_section SHT_SYMTAB (symtab_of sections + 1) (1 + length sections + count_by is_local symbols) 4 16
      (symbol_table text (length sections) symbols);
}

unfoldable pub named_strtab : List ℕ → List Symbol → Named
named_strtab text symbols = record { name = codes ".strtab"; section = table_section SHT_STRTAB 0 0 1 0 (names_table text symbols) }

-- all sections in order but the null section and the names of the sections
unfoldable pub named_sections : List ℕ → List AsmSection → List Symbol → List Named
named_sections text sections symbols =
    map (named_section text) sections
    ++ (named_relas text (symbol_numbers (length sections) symbols) (symtab_of sections) 1 sections
    ++ (named_symtab text sections symbols ∷ named_strtab text symbols ∷ []))

-- names with a zero byte behind each
abbrev pub names_of : List Named → List ℕ
names_of [] = []
names_of (n ∷ named) = n.name ++ (0 ∷ names_of named)

unfoldable pub named_shstrtab : List Named → Named
named_shstrtab named = record {
  name = codes ".shstrtab";
  section = table_section SHT_STRTAB 0 0 1 0 (0 ∷ (names_of named ++ (codes ".shstrtab" ++ (0 ∷ []))));
}

-- each section with the offset of its name, where the first one's has this offset
abbrev pub sections_from : ℕ → List Named → List Section
sections_from at [] = []
sections_from at (n ∷ named) = record n.section { name = at } ∷ sections_from (at + (length n.name + 1)) named

unfoldable pub sections_of : List Named → List Section
sections_of named = null_section ∷ sections_from 1 (named ++ (named_shstrtab named ∷ []))

unfoldable pub file_of : List ℕ → List AsmSection → List Symbol → File
file_of text sections symbols = record {
  kind = ET_REL;
  entry = 0;
  flags = 0;
  names = symtab_of sections + 2;
  segments = [];
  sections = sections_of (named_sections text sections symbols);
}
