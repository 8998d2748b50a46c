-- What `show` tells of a file: its type, its segments and its sections, then the entries of its tables, each group in
-- the order of the file (gABI chapter 4, "ELF Header" and "Sections"; chapter 5, "Program Header"). The byte order comes
-- first.
use Rattle.std.specs.Prelude.{ℕ, Bool, List, [], ◌++◌, Option, None, Some, if◌then◌else◌}
use Rattle.std.specs.List.{flat_map}
use Rattle.c6x_elf.specs.Entries.{text_of}
use Rattle.c6x_elf.specs.Lists.{section_name}
use Rattle.c6x_elf.specs.Parts.{is_relocation_table, is_symbol_table}
use Rattle.c6x_elf.specs.TableEntries.{rela_entries, symbol_entries}
use Rattle.c6x_elf.specs.declared.file.File.{File}
use Rattle.c6x_elf.specs.declared.section.Section.{Section}
use Rattle.c6x_elf.specs.declared.segment.Segment.{Segment}
use Rattle.c6x_module.specs.Entries.{dynamic_in, entries_of}
use Rattle.c6x_cli_show.specs.Lines.{rela_line, section_line, segment_line, symbol_line_in, tag_line, type_line}

-- A section of a file, with its name.
abbrev pub section_line_in : File → Section → List ℕ
section_line_in file s = section_line (section_name file.names file.sections s) s

-- The symbols of a section that is a symbol table; their names stand in the section that it links to.
unfoldable pub table_symbols : Bool → List Section → Section → List ℕ
table_symbols big sections table =
    if is_symbol_table table.kind
    then flat_map (symbol_line_in (text_of sections table.link)) (symbol_entries big table.bytes)
    else []

-- The entries of one that is a relocation table.
unfoldable pub table_relas : Bool → Section → List ℕ
table_relas big table =
    if is_relocation_table table.kind then flat_map rela_line (rela_entries big table.bytes) else []

-- The dynamic entries in front of the first NULL, where there are such bytes.
abbrev pub tag_lines : Bool → Option (List ℕ) → List ℕ
tag_lines big None = []
tag_lines big (Some bytes) = flat_map tag_line (entries_of big bytes)

-- What comes of the headers of a file,
unfoldable pub headers_text : File → List ℕ
headers_text file =
    type_line file.kind file.entry ++ (flat_map segment_line file.segments ++ flat_map (section_line_in file) file.sections)

-- and of its tables; the dynamic entries are those of the first segment of type DYNAMIC.
unfoldable pub tables_text : Bool → File → List ℕ
tables_text big file =
    flat_map (table_symbols big file.sections) file.sections
    ++ (flat_map (table_relas big) file.sections ++ tag_lines big (dynamic_in file.segments))

unfoldable pub show_text : Bool → File → List ℕ
show_text big file = headers_text file ++ tables_text big file
