-- What a look-up by name finds in a module (gABI chapter 4, "Symbol Table"; SPRAB89, "Dynamic Linking").
use Rattle.std.specs.Prelude.{ℕ, ◌+◌, ◌&&◌, ◌||◌, not, Bool, true, false, List, [], ◌∷◌, slice_get, Option, None, Some, if◌then◌else◌}
use Rattle.std.specs.Str.{bytes_eq}
use Rattle.c6x_elf_headers.specs.Attributes.{info_binding, other_visibility, section_class}
use Rattle.c6x_elf_headers.specs.declared.section_class.SectionClass.{SectionClass}
use Rattle.c6x_elf_headers.specs.declared.section_class.SectionClass.TheVariants.{Undefined, Section, Absolute, Common, NearCommon}
use Rattle.c6x_elf_headers.specs.declared.symbol_binding.SymbolBinding.{SymbolBinding}
use Rattle.c6x_elf_headers.specs.declared.symbol_binding.SymbolBinding.TheVariants.{Local, Global, Weak}
use Rattle.c6x_elf_headers.specs.declared.visibility.Visibility.{Visibility}
use Rattle.c6x_elf_headers.specs.declared.visibility.Visibility.TheVariants.{Internal, Hidden, Protected, Default}
use Rattle.c6x_module.specs.declared.symbol.DynSymbol.{DynSymbol}
use Rattle.c6x_module.specs.declared.module.Module.{Module}

abbrev pub is_local : SymbolBinding → Bool
is_local Local = true
is_local Global = false
is_local Weak = false

abbrev pub is_weak : SymbolBinding → Bool
is_weak Local = false
is_weak Global = false
is_weak Weak = true

abbrev pub is_defined : SectionClass → Bool
is_defined Undefined = false
is_defined (Section number) = true
is_defined Absolute = true
is_defined Common = true
is_defined NearCommon = true

abbrev pub is_default : Visibility → Bool
is_default Internal = false
is_default Hidden = false
is_default Protected = false
is_default Default = true

-- Other modules see it.
abbrev pub is_shown : Visibility → Bool
is_shown Internal = false
is_shown Hidden = false
is_shown Protected = true
is_shown Default = true

-- A look-up by name may find the symbol: it is GLOBAL or WEAK, defined, and of visibility DEFAULT or PROTECTED.
unfoldable pub is_export : DynSymbol → Bool
is_export symbol =
    not (is_local (info_binding symbol.info)) && is_defined (section_class symbol.section) && is_shown (other_visibility symbol.other)

-- The symbol is its module's own: it is LOCAL, or defined and of another visibility than DEFAULT.
unfoldable pub is_own : DynSymbol → Bool
is_own symbol =
    is_local (info_binding symbol.info) || is_defined (section_class symbol.section) && not (is_default (other_visibility symbol.other))

unfoldable pub is_weak_symbol : DynSymbol → Bool
is_weak_symbol symbol = is_weak (info_binding symbol.info)

-- The lowest number of an export of that name, where the first of these symbols has the number `from`.
abbrev pub export_from : List ℕ → ℕ → List DynSymbol → Option ℕ
export_from name from [] = None
export_from name from (symbol ∷ symbols) =
    if is_export symbol && bytes_eq symbol.name name then Some from else export_from name (from + 1) symbols

-- The symbols of the module with this number, none where there is no such module.
abbrev pub symbols_or : Option Module → List DynSymbol
symbols_or None = []
symbols_or (Some m) = m.symbols

abbrev pub symbols_of : List Module → ℕ → List DynSymbol
symbols_of modules number = symbols_or (slice_get modules number)
