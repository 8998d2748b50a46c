-- The GLOBAL and WEAK symbols of objects, in object and symbol order (gABI chapter 4, "Symbol Table").
use Rattle.std.specs.Prelude.{ℕ, ◌+◌, false, List, [], ◌∷◌, ◌++◌, Option, None, Some, map, slice_index_or}
use Rattle.c6x_elf.specs.Entries.{text_of}
use Rattle.c6x_elf.specs.Lists.{symbols_of, symtab_of}
use Rattle.c6x_elf.specs.declared.file.File.{File}
use Rattle.c6x_elf.specs.declared.section.Section.{Section}
use Rattle.c6x_elf.specs.Types.{Symbol, SymbolBinding}
use Rattle.c6x_elf.specs.Attributes.{symbol_binding}
use Rattle.c6x_elf.specs.Bindings.{Local, Global, Weak}
use Rattle.c6x_elf.specs.Names.{name_of}
use Rattle.c6x_symbols.specs.declared.mention.Mention.{Mention}

-- A name and a mention of it.
abbrev pub Named : Type 0
Named = List ℕ × Mention

-- The strings of the names of an object's symbols: those of the section that its first symbol table links to.
abbrev pub link_of : Section → ℕ
link_of section = section.link

abbrev pub strings_from : List Section → Option ℕ → List ℕ
strings_from sections None = []
strings_from sections (Some number) = text_of sections (slice_index_or (map link_of sections) number 0)

unfoldable pub strings_of : List Section → List ℕ
strings_of sections = strings_from sections (symtab_of sections)

-- A symbol under its name. In an object of read form each name ends; a symbol whose name does not end is passed over.
abbrev pub under_name : ℕ → ℕ → Symbol → Option (List ℕ) → List Named
under_name object number symbol None = []
under_name object number symbol (Some name) =
    (name, record { object = object; number = number; symbol = symbol }) ∷ []

-- A LOCAL symbol mentions no name.
abbrev pub mention_by : SymbolBinding → ℕ → ℕ → Symbol → Option (List ℕ) → List Named
mention_by Local object number symbol name = []
mention_by Global object number symbol name = under_name object number symbol name
mention_by Weak object number symbol name = under_name object number symbol name

unfoldable pub mention_of : List ℕ → ℕ → ℕ → Symbol → List Named
mention_of strings object number symbol =
    mention_by (symbol_binding symbol) object number symbol (name_of strings symbol.name)

-- Those of a table, whose symbols are numbered from here on.
abbrev pub mentions_along : List ℕ → ℕ → ℕ → List Symbol → List Named
mentions_along strings object number [] = []
mentions_along strings object number (symbol ∷ symbols) =
    mention_of strings object number symbol ++ mentions_along strings object (number + 1) symbols

unfoldable pub object_mentions : ℕ → List Section → List Named
object_mentions object sections = mentions_along (strings_of sections) object 0 (symbols_of false sections)

-- Those of objects, which are numbered from here on.
abbrev pub mentions_from : ℕ → List File → List Named
mentions_from object [] = []
mentions_from object (file ∷ files) = object_mentions object file.sections ++ mentions_from (object + 1) files

unfoldable pub mentions_of : List File → List Named
mentions_of objects = mentions_from 0 objects
