-- Where definitions lie (gABI chapter 4, "Symbol Table").
use Rattle.std.specs.Prelude.{ℕ, ◌==◌, Bool, true, false, List, [], Option, None, Some, map, slice_get, slice_index_or, if◌then◌else◌}
use Rattle.c6x_dsbt.specs.declared.wanted.Wanted.{Wanted}
use Rattle.c6x_dsbt.specs.declared.wanted.Wanted.TheVariants.{Bound, Local}
use Rattle.c6x_elf.specs.Attributes.{symbol_class}
use Rattle.c6x_elf.specs.Lists.{symbols_of}
use Rattle.c6x_elf.specs.SectionClasses.{Absolute as AbsoluteClass, Common as CommonClass, NearCommon, Section as SectionNumber, Undefined}
use Rattle.c6x_elf.specs.declared.file.File.{File}
use Rattle.c6x_elf.specs.declared.section.Section.{Section}
use Rattle.c6x_elf.specs.Types.{SectionClass, Symbol}
use Rattle.c6x_symbols.specs.Sections.{is_allocated, zone_of}
use Rattle.c6x_symbols.specs.declared.region.Region.{Region}
use Rattle.c6x_symbols.specs.declared.region.Region.TheVariants.{Absolute, Data, Import as Elsewhere, Text}
use Rattle.c6x_symbols.specs.declared.zone.Zone.{Zone}
use Rattle.c6x_symbols.specs.declared.zone.Zone.TheVariants.{Far, Near, Text as TextZone}
use Rattle.c6x_symbols.specs.Bindings.{BoundName, binding_in, bound_at}
use Rattle.c6x_symbols.specs.declared.binding.Binding.{Binding}
use Rattle.c6x_symbols.specs.declared.binding.Binding.TheVariants.{Common, Import, Strong, Table, Weak}

abbrev pub sections_in : File → List Section
sections_in file = file.sections

abbrev pub names_in : File → ℕ
names_in file = file.names

-- The sections of the object with this number, and the number of the section of their names; none and 0 where there is no
-- such object.
unfoldable pub sections_at : List File → ℕ → List Section
sections_at objects object = slice_index_or (map sections_in objects) object []

unfoldable pub names_at : List File → ℕ → ℕ
names_at objects object = slice_index_or (map names_in objects) object 0

abbrev pub zone_region : Zone → Region
zone_region TextZone = Text
zone_region Near = Data
zone_region Far = Data

-- A section with memory lies in the segment of its zone.
abbrev pub region_of_section : ℕ → List Section → Option Section → Region
region_of_section names sections None = Absolute
region_of_section names sections (Some section) =
    if is_allocated section then zone_region (zone_of names sections section) else Absolute

unfoldable pub section_region : List File → ℕ → ℕ → Region
section_region objects object section =
    region_of_section (names_at objects object) (sections_at objects object) (slice_get (sections_at objects object) section)

-- A definition lies in the segment of its section; one in a section without memory is absolute, and so are a LOCAL symbol
-- that is undefined and a LOCAL common.
abbrev pub class_region : List File → ℕ → SectionClass → Region
class_region objects object (SectionNumber section) = section_region objects object section
class_region objects object Undefined = Absolute
class_region objects object AbsoluteClass = Absolute
class_region objects object CommonClass = Absolute
class_region objects object NearCommon = Absolute

abbrev pub region_of_symbol : List File → ℕ → Option Symbol → Region
region_of_symbol objects object None = Absolute
region_of_symbol objects object (Some symbol) = class_region objects object (symbol_class symbol)

-- The symbol with this number of an object, if there is one.
unfoldable pub symbol_in : List File → ℕ → ℕ → Option Symbol
symbol_in objects object number = slice_get (symbols_of false (sections_at objects object)) number

unfoldable pub symbol_region : List File → ℕ → ℕ → Region
symbol_region objects object number = region_of_symbol objects object (symbol_in objects object number)

-- Commons and the table lie in data.
abbrev pub binding_region : List File → Binding → Region
binding_region objects (Strong object symbol) = symbol_region objects object symbol
binding_region objects (Weak object symbol) = symbol_region objects object symbol
binding_region objects (Common size align near) = Data
binding_region objects (Import weak) = Elsewhere
binding_region objects Table = Data

unfoldable pub bound_region : List File → List BoundName → ℕ → Region
bound_region objects bindings number = binding_region objects (binding_in (bound_at bindings number))

-- Symbol 0 of an object is absolute, whatever its entry holds.
unfoldable pub wanted_region : List File → List BoundName → Wanted → Region
wanted_region objects bindings (Bound number) = bound_region objects bindings number
wanted_region objects bindings (Local object symbol) = if symbol == 0 then Absolute else symbol_region objects object symbol

-- What is not absolute moves when the module is loaded.
abbrev pub moves : Region → Bool
moves Text = true
moves Data = true
moves Elsewhere = true
moves Absolute = false

abbrev pub is_data : Region → Bool
is_data Data = true
is_data Text = false
is_data Elsewhere = false
is_data Absolute = false
