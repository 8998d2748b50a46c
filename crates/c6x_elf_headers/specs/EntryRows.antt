-- The bytes of entries (gABI chapter 4, "Symbol Table" and "Relocation"; chapter 5, "Dynamic Section"). The byte order
-- comes first.
use Rattle.std.specs.Prelude.{ℕ, ◌^◌, ◌<◌, Bool, List, [], ◌∷◌, ◌++◌, FitsSigned}
use Rattle.std.specs.Int.{cast_unsigned, w32}
use Rattle.std.specs.List.{flat_map}
use Rattle.c6x_elf_headers.specs.Rows.{half_row, word_row}
use Rattle.c6x_elf_headers.specs.declared.dyn_entry.Dyn.{Dyn}
use Rattle.c6x_elf_headers.specs.declared.rela_entry.Rela.{Rela}
use Rattle.c6x_elf_headers.specs.declared.symbol_entry.Symbol.{Symbol}

-- The 16 bytes of a symbol.
unfoldable pub symbol_row : Bool → Symbol → List ℕ
symbol_row big symbol =
    word_row big (symbol.name ∷ symbol.value ∷ symbol.size ∷ [])
    ++ (symbol.info ∷ symbol.other ∷ half_row big (symbol.section ∷ []))

-- The 12 bytes of a relocation entry.
unfoldable pub rela_row : Bool → Rela → List ℕ
rela_row big rela = word_row big (rela.offset ∷ rela.info ∷ cast_unsigned w32 rela.addend ∷ [])

-- The 8 bytes of a dynamic entry.
unfoldable pub dynamic_row : Bool → Dyn → List ℕ
dynamic_row big entry = word_row big (entry.tag ∷ entry.value ∷ [])

-- The bytes of entries one behind the other.
abbrev pub symbol_rows : Bool → List Symbol → List ℕ
symbol_rows big symbols = flat_map (symbol_row big) symbols

abbrev pub rela_rows : Bool → List Rela → List ℕ
rela_rows big relas = flat_map (rela_row big) relas

abbrev pub dynamic_rows : Bool → List Dyn → List ℕ
dynamic_rows big entries = flat_map (dynamic_row big) entries

-- The numbers of an entry have their sizes.
pub record SymbolFits (symbol : Symbol) : Type 0 where
  pub name : symbol.name < 2 ^ 32
  pub value : symbol.value < 2 ^ 32
  pub size : symbol.size < 2 ^ 32
  pub section : symbol.section < 2 ^ 16

pub record RelaFits (rela : Rela) : Type 0 where
  pub offset : rela.offset < 2 ^ 32
  pub info : rela.info < 2 ^ 32
  pub addend : FitsSigned w32 rela.addend

pub record DynFits (entry : Dyn) : Type 0 where
  pub tag : entry.tag < 2 ^ 32
  pub value : entry.value < 2 ^ 32
