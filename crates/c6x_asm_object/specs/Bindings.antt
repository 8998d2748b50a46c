-- What an object file says of a name (gABI chapter 4, "Symbol Table").
use Rattle.std.specs.Prelude.{ℕ, ◌==◌, Bool, true, not, ◌||◌, if◌then◌else◌, Option, Some, None}
use Rattle.c6x_elf.specs.Attributes.{binding_number}
use Rattle.c6x_elf.specs.Bindings.{Local, Global, Weak}
use Rattle.c6x_elf.specs.Abi.{SHN_COMMON, SHN_TIC6X_SCOMMON, SHN_UNDEF, STB_LOCAL, STV_DEFAULT, STV_HIDDEN}
use Rattle.c6x_elf.specs.Types.{SymbolBinding}
use Rattle.c6x_asm_object.specs.declared.definition.Definition.{Definition}
use Rattle.c6x_asm_object.specs.declared.symbol.Symbol.{Symbol}

-- COMMON, and SPRAB89's near common
abbrev pub is_common : ℕ → Bool
is_common section = section == SHN_COMMON || section == SHN_TIC6X_SCOMMON

-- a name without a place, and a common, are seen by other objects
abbrev pub is_shared : Option Definition → Bool
is_shared None = true
is_shared (Some definition) = is_common definition.section

-- an undefined name and a common are global too
unfoldable pub binding : Symbol → SymbolBinding
binding s = if s.weak then Weak else if s.global || is_shared s.definition then Global else Local

abbrev pub is_local : Symbol → Bool
is_local s = binding_number (binding s) == STB_LOCAL

abbrev pub is_other : Symbol → Bool
is_other s = not (is_local s)

abbrev pub visibility : Symbol → ℕ
visibility s = if s.hidden then STV_HIDDEN else STV_DEFAULT

-- a name without a place has section 0, which is none
abbrev pub definition_or_none : Option Definition → Definition
definition_or_none None = record { section = SHN_UNDEF; value = 0; size = 0 }
definition_or_none (Some definition) = definition
