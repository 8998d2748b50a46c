-- The dynamic symbols of exports and imports (gABI chapter 5, "Dynamic Linking").
use Rattle.std.specs.Prelude.{ℕ, Bool, true, false, List, ◌++◌, Option, None, Some, map}
use Rattle.c6x_elf.specs.Abi.{SHN_ABS, SHN_UNDEF, STT_NOTYPE}
use Rattle.c6x_elf.specs.Attributes.{symbol_info}
use Rattle.c6x_elf.specs.Bindings.{Global, Weak}
use Rattle.c6x_elf.specs.Types.{Symbol}
use Rattle.c6x_layout.specs.Regions.{bound_region, symbol_in}
use Rattle.c6x_layout.specs.declared.shared.Shared.{Shared}
use Rattle.c6x_symbols.specs.declared.region.Region.{Region}
use Rattle.c6x_symbols.specs.declared.region.Region.TheVariants.{Absolute, Data, Import, Text}
use Rattle.c6x_symbols.specs.Bindings.{bound_at, exports_of, imports_of, source_in}
use Rattle.c6x_symbols.specs.declared.source.Source.{Source}
use Rattle.c6x_link.specs.Addresses.{bound_address}
use Rattle.c6x_link.specs.Working.{Working}

-- The number of the section of an export: 1 for the text, 2 for the data.
abbrev pub section_number : Region → ℕ
section_number Text = 1
section_number Data = 2
section_number Absolute = SHN_ABS
section_number Import = SHN_UNDEF

-- The symbol that an export is written from.
abbrev pub symbol_at_source : Working → Option Source → Option Symbol
symbol_at_source w None = None
symbol_at_source w (Some source) = symbol_in w.objects source.object source.symbol

abbrev pub size_of : Option Symbol → ℕ
size_of None = 0
size_of (Some symbol) = symbol.size

abbrev pub info_of : Option Symbol → ℕ
info_of None = 0
info_of (Some symbol) = symbol.info

abbrev pub other_of : Option Symbol → ℕ
other_of None = 0
other_of (Some symbol) = symbol.other

unfoldable pub source_symbol : Working → ℕ → Option Symbol
source_symbol w number = symbol_at_source w (source_in (bound_at w.bindings number))

-- An export has its definition's address, and the size, info and other of the symbol that it is written from.
unfoldable pub export_of : Working → ℕ → Shared
export_of w number = record {
  name = (bound_at w.bindings number).name;
  value = bound_address w number;
  size = size_of (source_symbol w number);
  info = info_of (source_symbol w number);
  other = other_of (source_symbol w number);
  section = section_number (bound_region w.objects w.bindings number);
}

-- An import is WEAK where every mention of its name is.
abbrev pub import_info : Bool → ℕ
import_info true = symbol_info Weak STT_NOTYPE
import_info false = symbol_info Global STT_NOTYPE

unfoldable pub import_of : Working → ℕ → Shared
import_of w number = record {
  name = (bound_at w.bindings number).name;
  value = 0;
  size = 0;
  info = import_info (bound_at w.bindings number).group.all_weak;
  other = 0;
  section = SHN_UNDEF;
}

-- The exports, and then the imports, each in order of first appearance.
unfoldable pub shared_of : Working → List Shared
shared_of w = map (export_of w) (exports_of w.bindings) ++ map (import_of w) (imports_of w.bindings)
