-- The relocation entries of all objects, in object, section and entry order (gABI chapter 4, "Relocation").
use Rattle.std.specs.Prelude.{ℕ, ◌==◌, ◌&&◌, ◌||◌, Bool, List, [], ◌∷◌, Option, None, Some, filter, map, pos, if◌then◌else◌}
use Rattle.std.specs.List.{enumerate_from, flat_map}
use Rattle.c6x_elf.specs.Abi.{SHT_REL, SHT_RELA}
use Rattle.c6x_elf.specs.Attributes.{rela_kind, rela_symbol}
use Rattle.c6x_elf.specs.Lists.{symtab_of}
use Rattle.c6x_elf.specs.TableEntries.{rela_entries}
use Rattle.c6x_elf.specs.Types.{Rela}
use Rattle.c6x_elf.specs.declared.file.File.{File}
use Rattle.c6x_elf.specs.declared.section.Section.{Section}
use Rattle.c6x_symbols.specs.Sections.{is_allocated_at}
use Rattle.c6x_symbols.specs.declared.object_entry.ObjectEntry.{ObjectEntry}

-- A table of relocation entries that change a section with memory.
unfoldable pub is_used : List Section → Section → Bool
is_used sections table = (table.kind == SHT_RELA || table.kind == SHT_REL) && is_allocated_at sections table.info

-- A table is linked to the object's symbols, or to none.
abbrev pub is_own : Option ℕ → ℕ → Bool
is_own None link = link == 0
is_own (Some symbols) link = link == 0 || link == symbols

abbrev pub entry_of : ℕ → ℕ → Rela → ObjectEntry
entry_of object section rela = record {
  object = object;
  section = section;
  kind = Some (rela_kind rela);
  offset = rela.offset;
  symbol = rela_symbol rela;
  addend = rela.addend;
}

-- The entry that stands for a table that cannot be read.
abbrev pub unread : ℕ → ℕ → ObjectEntry
unread object section = record {
  object = object;
  section = section;
  kind = None;
  offset = 0;
  symbol = 0;
  addend = pos 0;
}

-- The entries of a table, where `symbols` is the number of the object's symbol table.
unfoldable pub table_entries : Bool → ℕ → Option ℕ → Section → List ObjectEntry
table_entries big object symbols table =
    if table.kind == SHT_RELA && is_own symbols table.link
    then map (entry_of object table.info) (rela_entries big table.bytes)
    else unread object table.info ∷ []

unfoldable pub file_entries : Bool → ℕ × File → List ObjectEntry
file_entries big x =
    flat_map (table_entries big x.0 (symtab_of x.1.sections)) (filter (is_used x.1.sections) x.1.sections)

unfoldable pub entries_of : Bool → List File → List ObjectEntry
entries_of big files = flat_map (file_entries big) (enumerate_from 0 files)
