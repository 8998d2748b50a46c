-- The two groups of names.
use Rattle.std.specs.Prelude.{ℕ, Bool, if◌then◌else◌, List, filter, map}
use Rattle.std.specs.List.{flat_map}
use Rattle.c6x_elf.specs.Names.{name_row}
use Rattle.c6x_asm_object.specs.Symbols.{symbol_name}
use Rattle.c6x_asm_object.specs.declared.symbol.Symbol.{Symbol}
use Rattle.c6x_asm_object.specs.Bindings.{is_local, is_other}

-- whether a name is one of the local names, or one of the others
abbrev pub is_in : Bool → Symbol → Bool
is_in local s = if local then is_local s else is_other s

-- the local names, or the others
unfoldable pub group : Bool → List Symbol → List Symbol
group local symbols = filter (is_in local) symbols

-- the names of symbols as they stand in their table
abbrev pub name_rows : List ℕ → List Symbol → List ℕ
name_rows text symbols = flat_map name_row (map (symbol_name text) symbols)
