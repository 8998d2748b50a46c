-- The lines of `show`, this project's own. Addresses and values are eight hexadecimal digits behind `0x`, other
-- numbers decimal. The entries are those of the gABI (chapter 4, "Symbol Table" and "Relocation"; chapter 5, "Dynamic
-- Section").
use Rattle.std.specs.Prelude.{ℕ, List, [], ◌++◌, codes, decimal, length, unwrap_or}
use Rattle.std.specs.Fmt.{signed_decimal}
use Rattle.c6x_spec.specs.Printed.{hex_word}
use Rattle.c6x_elf.specs.Attributes.{rela_kind, rela_symbol}
use Rattle.c6x_elf.specs.Names.{name_of}
use Rattle.c6x_elf.specs.Types.{Dyn, Rela, Symbol}
use Rattle.c6x_elf.specs.declared.section.Section.{Section}
use Rattle.c6x_elf.specs.declared.segment.Segment.{Segment}

-- The type of a file and its entry.
unfoldable pub type_line : ℕ → ℕ → List ℕ
type_line kind entry = codes "type " ++ decimal kind ++ codes " entry " ++ hex_word entry ++ codes "\n"

-- A segment, with how many bytes it has in the file and in the memory.
unfoldable pub segment_line : Segment → List ℕ
segment_line s =
    codes "segment " ++ decimal s.kind ++ codes " " ++ hex_word s.vaddr ++ codes " " ++ decimal (length s.bytes)
    ++ codes " " ++ decimal s.memsz ++ codes " " ++ decimal s.flags ++ codes "\n"

-- A section of this name.
unfoldable pub section_line : List ℕ → Section → List ℕ
section_line name s =
    codes "section " ++ name ++ codes " " ++ decimal s.kind ++ codes " " ++ decimal s.flags ++ codes " "
    ++ decimal s.size ++ codes "\n"

-- A symbol of this name, and one whose name stands in these strings.
unfoldable pub symbol_line : List ℕ → Symbol → List ℕ
symbol_line name s =
    codes "symbol " ++ name ++ codes " " ++ hex_word s.value ++ codes " " ++ decimal s.info ++ codes " "
    ++ decimal s.section ++ codes "\n"

abbrev pub symbol_line_in : List ℕ → Symbol → List ℕ
symbol_line_in strings s = symbol_line (unwrap_or (name_of strings s.name) []) s

-- A relocation entry, with its addend's sign.
unfoldable pub rela_line : Rela → List ℕ
rela_line r =
    codes "reloc " ++ decimal r.offset ++ codes " " ++ decimal (rela_kind r) ++ codes " "
    ++ decimal (rela_symbol r) ++ codes " " ++ signed_decimal r.addend ++ codes "\n"

-- A dynamic entry.
unfoldable pub tag_line : Dyn → List ℕ
tag_line d = codes "tag " ++ hex_word d.tag ++ codes " " ++ hex_word d.value ++ codes "\n"
