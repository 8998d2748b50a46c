-- What the numbers of a symbol's entry say (gABI chapter 4, "Symbol Table" and "Special Section Indexes").
use Rattle.std.specs.Prelude.{ℕ, ◌+◌, ◌*◌, ◌/◌, ◌%◌, ◌==◌, nat_le, if◌then◌else◌}
use Rattle.c6x_elf_headers.specs.declared.abi.TheConstants.{SHN_COMMON, SHN_LORESERVE, SHN_TIC6X_SCOMMON, SHN_UNDEF, STB_GLOBAL, STB_LOCAL, STB_WEAK, STV_HIDDEN, STV_INTERNAL, STV_PROTECTED}
use Rattle.c6x_elf_headers.specs.declared.rela_entry.Rela.{Rela}
use Rattle.c6x_elf_headers.specs.declared.section_class.SectionClass.{SectionClass}
use Rattle.c6x_elf_headers.specs.declared.section_class.SectionClass.TheVariants.{Undefined, Section, Absolute, Common, NearCommon}
use Rattle.c6x_elf_headers.specs.declared.symbol_binding.SymbolBinding.{SymbolBinding}
use Rattle.c6x_elf_headers.specs.declared.symbol_binding.SymbolBinding.TheVariants.{Local, Global, Weak}
use Rattle.c6x_elf_headers.specs.declared.symbol_entry.Symbol.{Symbol}
use Rattle.c6x_elf_headers.specs.declared.visibility.Visibility.{Visibility}
use Rattle.c6x_elf_headers.specs.declared.visibility.Visibility.TheVariants.{Internal, Hidden, Protected, Default}

-- The binding, the high four bits of info; every number but those of GLOBAL and WEAK counts as LOCAL.
unfoldable pub info_binding : ℕ → SymbolBinding
info_binding info = if info / 16 == STB_GLOBAL then Global else if info / 16 == STB_WEAK then Weak else Local

abbrev pub binding_number : SymbolBinding → ℕ
binding_number Local = STB_LOCAL
binding_number Global = STB_GLOBAL
binding_number Weak = STB_WEAK

-- The type, the low four bits of info.
abbrev pub info_type : ℕ → ℕ
info_type info = info % 16

-- The info of a binding and a type.
abbrev pub symbol_info : SymbolBinding → ℕ → ℕ
symbol_info binding type = 16 * binding_number binding + type

-- The visibility, the low two bits of other.
unfoldable pub other_visibility : ℕ → Visibility
other_visibility other =
    if other % 4 == STV_INTERNAL then Internal
    else if other % 4 == STV_HIDDEN then Hidden
    else if other % 4 == STV_PROTECTED then Protected
    else Default

-- How many visibilities are stricter.
abbrev pub strictness : Visibility → ℕ
strictness Internal = 0
strictness Hidden = 1
strictness Protected = 2
strictness Default = 3

abbrev pub strictest : Visibility → Visibility → Visibility
strictest a b = if nat_le (strictness a) (strictness b) then a else b

-- Where a symbol of this section number is defined; every other number from SHN_LORESERVE on counts as ABS.
unfoldable pub section_class : ℕ → SectionClass
section_class section =
    if section == SHN_UNDEF then Undefined
    else if section == SHN_COMMON then Common
    else if section == SHN_TIC6X_SCOMMON then NearCommon
    else if nat_le SHN_LORESERVE section then Absolute
    else Section section

abbrev pub symbol_binding : Symbol → SymbolBinding
symbol_binding symbol = info_binding symbol.info

abbrev pub symbol_type : Symbol → ℕ
symbol_type symbol = info_type symbol.info

abbrev pub symbol_visibility : Symbol → Visibility
symbol_visibility symbol = other_visibility symbol.other

abbrev pub symbol_class : Symbol → SectionClass
symbol_class symbol = section_class symbol.section

-- A relocation entry's symbol and kind (gABI chapter 4, "Relocation"): info is the symbol's number times 256 plus the
-- kind's.
abbrev pub rela_info : ℕ → ℕ → ℕ
rela_info symbol kind = symbol * 256 + kind

abbrev pub rela_symbol : Rela → ℕ
rela_symbol rela = rela.info / 256

abbrev pub rela_kind : Rela → ℕ
rela_kind rela = rela.info % 256
