-- Rows of regions.
use Rattle.std.proofs.Common.{◌≡◌, ℕ, zero, suc, ◌+◌, ◌<◌, ◌≤◌, false, List, [], ◌∷◌, ◌++◌, length, take, get_or, map, slice_get, refl, sym, ap, ◌∙◌}
use Rattle.std.proofs.lemmas.List.{get_or_past, map-append, take_more}
use Rattle.c6x_elf.specs.Attributes.{symbol_class}
use Rattle.c6x_elf.specs.Lists.{symbols_of, symtab_of}
use Rattle.c6x_elf.specs.SectionClasses.{Absolute as AbsoluteClass, Common as CommonClass, NearCommon, Section as SectionNumber, Undefined}
use Rattle.c6x_elf.specs.Types.{SectionClass, Symbol}
use Rattle.c6x_elf.specs.declared.file.File.{File}
use Rattle.c6x_elf.specs.declared.section.Section.{Section}
use Rattle.c6x_symbols.specs.declared.region.Region.{Region}
use Rattle.c6x_symbols.specs.declared.region.Region.TheVariants.{Absolute, Import}
use Rattle.c6x_symbols.specs.Binding.{binding_of, is_table}
use Rattle.c6x_symbols.specs.Bindings.{BoundName, binding_in, no_name}
use Rattle.c6x_symbols.specs.Groups.{no_group}
use Rattle.c6x_layout.specs.RegionRows.{AreRegions, class_in, own_region, section_row, symbol_in_row, symbol_row}
use Rattle.c6x_layout.specs.Regions.{binding_region, bound_region, class_region, names_at, names_in, region_of_section, region_of_symbol, section_region, sections_at, sections_in, symbol_in, symbol_region}
use Rattle.c6x_layout.specs.declared.regions.Regions.{Regions}

pub row_more : {X Y : Type 0} (f : X → Y) (xs : List X) (i : ℕ) (d : X) → i < length xs → map f (take (i + 1) xs) ≡ map f (take i xs) ++ f (get_or xs i d) ∷ []
row_more f xs i d below = ap (map f) (take_more xs i d below) ∙ map-append f (take i xs) (get_or xs i d ∷ [])

own_there : (names : ℕ) (all sections : List Section) (k : ℕ) → get_or (map (own_region names all) sections) k Absolute ≡ region_of_section names all (slice_get sections k)
own_there names all [] k = refl
own_there names all (s ∷ ss) zero = refl
own_there names all (s ∷ ss) (suc k) = own_there names all ss k

section_in_row : (objects : List File) (object section : ℕ) → get_or (get_or (map section_row objects) object []) section Absolute ≡ region_of_section (get_or (map names_in objects) object 0) (get_or (map sections_in objects) object []) (slice_get (get_or (map sections_in objects) object []) section)
unfolding section_row
section_in_row [] object section = refl
section_in_row (o ∷ os) zero section = own_there o.names o.sections o.sections section
section_in_row (o ∷ os) (suc object) section = section_in_row os object section

section_is : (objects : List File) (object section : ℕ) → get_or (get_or (map section_row objects) object []) section Absolute ≡ section_region objects object section
unfolding section_region names_at sections_at
section_is objects object section = section_in_row objects object section

pub section_there : (objects : List File) (regions : Regions) (object section : ℕ) → AreRegions objects regions → get_or (get_or regions.sections object []) section Absolute ≡ section_region objects object section
section_there objects regions object section are =
    ap (λ rows. get_or (get_or rows object []) section Absolute) are.sections ∙ section_is objects object section

class_is : (objects : List File) (object : ℕ) (sections : List Region) (class : SectionClass) → ((section : ℕ) → get_or sections section Absolute ≡ section_region objects object section) → class_in sections class ≡ class_region objects object class
class_is objects object sections (SectionNumber section) each = each section
class_is objects object sections Undefined each = refl
class_is objects object sections AbsoluteClass each = refl
class_is objects object sections CommonClass each = refl
class_is objects object sections NearCommon each = refl

symbols_there : (objects : List File) (object : ℕ) (sections : List Region) (symbols : List Symbol) (k : ℕ) → ((section : ℕ) → get_or sections section Absolute ≡ section_region objects object section) → get_or (map (symbol_in_row sections) symbols) k Absolute ≡ region_of_symbol objects object (slice_get symbols k)
symbols_there objects object sections [] k each = refl
symbols_there objects object sections (s ∷ ss) zero each = class_is objects object sections (symbol_class s) each
symbols_there objects object sections (s ∷ ss) (suc k) each = symbols_there objects object sections ss k each

abbrev row_by : File → List Region → List Region
row_by file sections = map (symbol_in_row sections) (symbols_of false file.sections)

no_symbols : symbols_of false [] ≡ []
unfolding symbols_of symtab_of
no_symbols = refl

row_in : (objects : List File) (object : ℕ) → get_or (map symbol_row objects) object [] ≡ map (symbol_in_row (get_or (map section_row objects) object [])) (symbols_of false (get_or (map sections_in objects) object []))
unfolding symbol_row
row_in [] object = sym (ap (map (symbol_in_row [])) no_symbols)
row_in (o ∷ os) zero = refl
row_in (o ∷ os) (suc object) = row_in os object

pub symbol_there : (objects : List File) (regions : Regions) (object number : ℕ) → AreRegions objects regions → get_or (get_or regions.symbols object []) number Absolute ≡ symbol_region objects object number
unfolding symbol_region symbol_in sections_at
symbol_there objects regions object number are =
    ap (λ rows. get_or (get_or rows object []) number Absolute) are.symbols
    ∙ ap (λ row. get_or row number Absolute) (row_in objects object)
    ∙ symbols_there objects object (get_or (map section_row objects) object []) (symbols_of false (get_or (map sections_in objects) object [])) number (section_is objects object)

-- no name stands for an import
none_imported : (objects : List File) → binding_region objects (binding_in no_name) ≡ Import
unfolding no_name no_group binding_of is_table
none_imported objects = refl

pub bound_past : (objects : List File) (bindings : List BoundName) (number : ℕ) → length bindings ≤ number → Import ≡ bound_region objects bindings number
unfolding bound_region
bound_past objects bindings number past =
    sym (ap (λ b. binding_region objects (binding_in b)) (get_or_past bindings number no_name past) ∙ none_imported objects)
