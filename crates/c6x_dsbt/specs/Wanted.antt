-- What the symbols of an object stand for (gABI chapter 4, "Symbol Table"; SPRAB89 on the words of the table).
use Rattle.std.specs.Prelude.{ℕ, ◌==◌, ◌&&◌, false, Bool, List, Option, None, Some, map, slice_index_or, if◌then◌else◌}
use Rattle.std.specs.List.{enumerate_from}
use Rattle.c6x_elf.specs.Attributes.{symbol_binding}
use Rattle.c6x_elf.specs.Bindings.{Global, Local as LocalBinding, Weak}
use Rattle.c6x_elf.specs.Lists.{symbols_of}
use Rattle.c6x_elf.specs.Names.{name_of}
use Rattle.c6x_elf.specs.Types.{Symbol, SymbolBinding}
use Rattle.c6x_elf.specs.declared.section.Section.{Section}
use Rattle.c6x_symbols.specs.Mentions.{strings_of}
use Rattle.c6x_symbols.specs.Names.{name_at}
use Rattle.c6x_dsbt.specs.declared.wanted.Wanted.{Wanted}
use Rattle.c6x_dsbt.specs.declared.wanted.Wanted.TheVariants.{Bound, Local}

abbrev pub same_wanted : Wanted → Wanted → Bool
same_wanted (Bound a) (Bound b) = a == b
same_wanted (Bound a) (Local object symbol) = false
same_wanted (Local object symbol) (Bound b) = false
same_wanted (Local object_1 symbol_1) (Local object_2 symbol_2) = object_1 == object_2 && symbol_1 == symbol_2

-- A GLOBAL or WEAK symbol stands for the name that it mentions, every other one for itself.
abbrev pub under_number : ℕ → ℕ → Option ℕ → Wanted
under_number object symbol None = Local object symbol
under_number object symbol (Some number) = Bound number

abbrev pub under_name : List (List ℕ) → ℕ → ℕ → Option (List ℕ) → Wanted
under_name names object symbol None = Local object symbol
under_name names object symbol (Some name) = under_number object symbol (name_at names name)

abbrev pub by_binding : SymbolBinding → List (List ℕ) → ℕ → ℕ → Option (List ℕ) → Wanted
by_binding LocalBinding names object symbol name = Local object symbol
by_binding Global names object symbol name = under_name names object symbol name
by_binding Weak names object symbol name = under_name names object symbol name

-- Symbol number `number` of an object, where `names` are the names of the link; symbol 0 stands for no name, whatever
-- its entry holds.
unfoldable pub wanted_by : List (List ℕ) → List ℕ → ℕ → ℕ × Symbol → Wanted
wanted_by names strings object x =
    if x.0 == 0 then Local object 0
    else by_binding (symbol_binding x.1) names object x.0 (name_of strings x.1.name)

-- What each symbol of an object stands for, in order.
unfoldable pub wanted_of : List (List ℕ) → ℕ → List Section → List Wanted
wanted_of names object sections =
    map (wanted_by names (strings_of sections) object) (enumerate_from 0 (symbols_of false sections))

-- What the symbol with this number stands for; one that the object lacks, as symbol 0 of one without symbols, for itself.
unfoldable pub wanted_at : List Wanted → ℕ → ℕ → Wanted
wanted_at wanted object symbol = slice_index_or wanted symbol (Local object symbol)
