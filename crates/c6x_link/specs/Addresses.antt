-- Link addresses of sections and definitions (gABI chapter 4, "Symbol Table": a symbol's value counts from its section).
use Rattle.std.specs.Prelude.{ℕ, ◌+◌, ◌%◌, ◌^◌, ◌==◌, ◌&&◌, List, [], ◌∷◌, Option, None, Some, slice_index, if◌then◌else◌}
use Rattle.c6x_dsbt.specs.declared.wanted.Wanted.{Wanted}
use Rattle.c6x_dsbt.specs.declared.wanted.Wanted.TheVariants.{Bound, Local}
use Rattle.c6x_elf.specs.Attributes.{symbol_class}
use Rattle.c6x_elf.specs.SectionClasses.{Absolute, Common as CommonClass, NearCommon, Section as SectionNumber, Undefined}
use Rattle.c6x_elf.specs.Types.{SectionClass, Symbol}
use Rattle.c6x_layout.specs.Regions.{moves, section_region, symbol_in}
use Rattle.c6x_layout.specs.declared.place.Place.{Place}
use Rattle.c6x_symbols.specs.Bindings.{binding_in, bound_at}
use Rattle.c6x_symbols.specs.declared.binding.Binding.{Binding}
use Rattle.c6x_symbols.specs.declared.binding.Binding.TheVariants.{Common, Import, Strong, Table, Weak}
use Rattle.c6x_link.specs.Working.{Working}

-- The address of a section: that of its place, and 0 where it has none.
abbrev pub address_in : List Place → ℕ → ℕ → ℕ
address_in [] object section = 0
address_in (p ∷ ps) object section =
    if p.object == object && p.section == section then p.address else address_in ps object section

-- A definition in a section with memory counts from it; every other one is absolute with its own value.
unfoldable pub section_address : Working → ℕ → ℕ → ℕ → ℕ
section_address w object value section =
    if moves (section_region w.objects object section)
    then (address_in w.layout.places object section + value) % 2 ^ 32
    else value

abbrev pub class_address : Working → ℕ → ℕ → SectionClass → ℕ
class_address w object value (SectionNumber section) = section_address w object value section
class_address w object value Undefined = value
class_address w object value Absolute = value
class_address w object value CommonClass = value
class_address w object value NearCommon = value

abbrev pub address_of_symbol : Working → ℕ → Option Symbol → ℕ
address_of_symbol w object None = 0
address_of_symbol w object (Some symbol) = class_address w object symbol.value (symbol_class symbol)

unfoldable pub symbol_address : Working → ℕ → ℕ → ℕ
symbol_address w object number = address_of_symbol w object (symbol_in w.objects object number)

-- The address of what a name is bound to; 0 for an import.
abbrev pub binding_address : Working → ℕ → Binding → ℕ
binding_address w number (Strong object symbol) = symbol_address w object symbol
binding_address w number (Weak object symbol) = symbol_address w object symbol
binding_address w number (Common size align near) = slice_index w.layout.commons number
binding_address w number (Import weak) = 0
binding_address w number Table = w.layout.table

unfoldable pub bound_address : Working → ℕ → ℕ
bound_address w number = binding_address w number (binding_in (bound_at w.bindings number))

-- Symbol 0 of an object has the address 0, whatever its entry holds.
unfoldable pub wanted_address : Working → Wanted → ℕ
wanted_address w (Bound number) = bound_address w number
wanted_address w (Local object symbol) = if symbol == 0 then 0 else symbol_address w object symbol
