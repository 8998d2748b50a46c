-- The regions of all sections and all symbols of objects, as rows.
use Rattle.std.specs.Prelude.{◌≡◌, ℕ, false, List, Some, map, slice_index_or}
use Rattle.c6x_elf.specs.Attributes.{symbol_class}
use Rattle.c6x_elf.specs.Lists.{symbols_of}
use Rattle.c6x_elf.specs.SectionClasses.{Absolute as AbsoluteClass, Common as CommonClass, NearCommon, Section as SectionNumber, Undefined}
use Rattle.c6x_elf.specs.Types.{SectionClass, Symbol}
use Rattle.c6x_elf.specs.declared.file.File.{File}
use Rattle.c6x_elf.specs.declared.section.Section.{Section}
use Rattle.c6x_symbols.specs.declared.region.Region.{Region}
use Rattle.c6x_symbols.specs.declared.region.Region.TheVariants.{Absolute}
use Rattle.c6x_layout.specs.Regions.{region_of_section}
use Rattle.c6x_layout.specs.declared.regions.Regions.{Regions}

abbrev pub own_region : ℕ → List Section → Section → Region
own_region names sections section = region_of_section names sections (Some section)

unfoldable pub section_row : File → List Region
section_row file = map (own_region file.names file.sections) file.sections

-- The region of a symbol that is defined in an object whose sections have these regions.
abbrev pub class_in : List Region → SectionClass → Region
class_in sections (SectionNumber section) = slice_index_or sections section Absolute
class_in sections Undefined = Absolute
class_in sections AbsoluteClass = Absolute
class_in sections CommonClass = Absolute
class_in sections NearCommon = Absolute

abbrev pub symbol_in_row : List Region → Symbol → Region
symbol_in_row sections symbol = class_in sections (symbol_class symbol)

unfoldable pub symbol_row : File → List Region
symbol_row file = map (symbol_in_row (section_row file)) (symbols_of false file.sections)

-- The rows of these objects.
pub record AreRegions (objects : List File) (regions : Regions) : Type 0 where
  pub sections : regions.sections ≡ map section_row objects
  pub symbols : regions.symbols ≡ map symbol_row objects
