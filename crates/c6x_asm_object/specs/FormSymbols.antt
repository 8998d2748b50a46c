-- The symbol table of an object and its names (gABI chapter 4, "Symbol Table" and "String Table"): the null symbol, the
-- section symbols, the local names, the others; the order inside a group is that of first appearance.
use Rattle.std.specs.Prelude.{ℕ, zero, suc, ◌+◌, if◌then◌else◌, false, List, [], ◌∷◌, ◌++◌, length, map, take, filter, count_by}
use Rattle.std.specs.List.{range_with_len}
use Rattle.c6x_elf.specs.Abi.{SHN_UNDEF, STT_NOTYPE, STT_SECTION, STV_DEFAULT}
use Rattle.c6x_elf.specs.Attributes.{symbol_info}
use Rattle.c6x_elf.specs.Bindings.{Local}
use Rattle.c6x_elf.specs.EntryRows.{symbol_rows}
use Rattle.c6x_elf.specs.Names.{name_table}
use Rattle.c6x_elf.specs.Types.{Symbol as Entry}
use Rattle.c6x_asm_object.specs.Symbols.{symbol_name, symbol_of}
use Rattle.c6x_asm_object.specs.declared.symbol.Symbol.{Symbol}
use Rattle.c6x_asm_object.specs.Bindings.{binding, is_local, is_other, visibility, definition_or_none}

-- the local names, then the others
unfoldable pub ordered : List Symbol → List Symbol
ordered symbols = filter is_local symbols ++ filter is_other symbols

-- the null symbol (gABI chapter 4, "Symbol Table")
abbrev pub null_entry : Entry
null_entry = record { name = 0; value = 0; size = 0; info = symbol_info Local STT_NOTYPE; other = STV_DEFAULT; section = SHN_UNDEF }

-- the symbol of the section with this number, of type SECTION
abbrev pub section_entry : ℕ → Entry
section_entry number = record { name = 0; value = 0; size = 0; info = symbol_info Local STT_SECTION; other = STV_DEFAULT; section = number }

-- the symbol of a name that stands at an offset of the names
abbrev pub name_entry : ℕ → Symbol → Entry
name_entry name s = record {
  name = name;
  value = (definition_or_none s.definition).value;
  size = (definition_or_none s.definition).size;
  info = symbol_info (binding s) STT_NOTYPE;
  other = visibility s;
  section = (definition_or_none s.definition).section;
}

-- the symbols of so many sections, from this number on
abbrev pub section_entries : ℕ → ℕ → List Entry
section_entries number zero = []
section_entries number (suc count) = section_entry number ∷ section_entries (number + 1) count

-- the symbols of names, where the first one stands at this offset
abbrev pub name_entries : List ℕ → ℕ → List Symbol → List Entry
name_entries text name [] = []
name_entries text name (s ∷ symbols) = name_entry name s ∷ name_entries text (name + (length (symbol_name text s) + 1)) symbols

-- the symbols of an object of so many sections
unfoldable pub entries : List ℕ → ℕ → List Symbol → List Entry
entries text sections symbols = null_entry ∷ (section_entries 1 sections ++ name_entries text 1 (ordered symbols))

-- their bytes
unfoldable pub symbol_table : List ℕ → ℕ → List Symbol → List ℕ
symbol_table text sections symbols = symbol_rows false (entries text sections symbols)

-- the names of the symbols in the same order
unfoldable pub names_table : List ℕ → List Symbol → List ℕ
names_table text symbols = name_table (map (symbol_name text) (ordered symbols))

-- the number in the table of the symbol with this index among the names by first appearance
unfoldable pub symbol_number : ℕ → List Symbol → ℕ → ℕ
symbol_number sections symbols i =
    if is_local (symbol_of symbols i) then 1 + sections + count_by is_local (take i symbols)
    else 1 + sections + count_by is_local symbols + count_by is_other (take i symbols)

unfoldable pub symbol_numbers : ℕ → List Symbol → List ℕ
symbol_numbers sections symbols = map (symbol_number sections symbols) (range_with_len 0 (length symbols))
