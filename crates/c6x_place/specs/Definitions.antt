-- What a field stands for (SPRAB89, "Dynamic Linking"; gABI chapter 4, "Symbol Table").
use Rattle.std.specs.Prelude.{ℕ, ◌+◌, ◌==◌, ◌&&◌, ◌||◌, Bool, nat_le, List, [], ◌∷◌, map, slice_get, Option, None, Some, if◌then◌else◌}
use Rattle.c6x_elf.specs.declared.segment.Segment.{Segment}
use Rattle.c6x_elf_headers.specs.Attributes.{section_class}
use Rattle.c6x_elf_headers.specs.declared.section_class.SectionClass.{SectionClass}
use Rattle.c6x_elf_headers.specs.declared.section_class.SectionClass.TheVariants.{Undefined, Section, Absolute, Common, NearCommon}
use Rattle.c6x_module.specs.Lookups.{export_from, is_own, is_weak_symbol, symbols_of}
use Rattle.c6x_module.specs.declared.field.Field.{Field}
use Rattle.c6x_module.specs.declared.module.Module.{Module}
use Rattle.c6x_module.specs.declared.symbol.DynSymbol.{DynSymbol}
use Rattle.c6x_place.specs.Members.{fields_of}
use Rattle.c6x_place.specs.declared.found.Found.{Found}
use Rattle.c6x_place.specs.declared.found.Found.TheVariants.{Nothing, Missing, At}
use Rattle.c6x_place.specs.declared.target.Target.{Target}
use Rattle.c6x_place.specs.declared.target.Target.TheVariants.{Zero, Fixed, Inside}

abbrev pub found_or : Option ℕ → ℕ → Found → Found
found_or None position later = later
found_or (Some symbol) position later = At position symbol

-- The definition of a name: the export of the first module that has one, where the list begins at this position.
abbrev pub first_export : List Module → List ℕ → ℕ → List ℕ → Found
first_export modules name position [] = Missing
first_export modules name position (number ∷ list) =
    found_or (export_from name 0 (symbols_of modules number)) position (first_export modules name (position + 1) list)

-- A weak symbol that is not found stands for nothing.
abbrev pub or_weak : Bool → Found → Found
or_weak weak Missing = if weak then Nothing else Missing
or_weak weak Nothing = Nothing
or_weak weak (At position symbol) = At position symbol

-- The definition of a symbol of the module at a position.
abbrev pub symbol_found : List Module → List ℕ → ℕ → ℕ → Option DynSymbol → Found
symbol_found modules list position number None = Nothing
symbol_found modules list position number (Some symbol) =
    if is_own symbol then At position number else or_weak (is_weak_symbol symbol) (first_export modules symbol.name 0 list)

-- The definition of a field of the module at a position of the search list: none for symbol 0.
unfoldable pub field_found : List Module → List ℕ → ℕ → List DynSymbol → Field → Found
field_found modules list position symbols field =
    if field.symbol == 0 then Nothing
    else symbol_found modules list position field.symbol (slice_get symbols field.symbol)

-- An address lies in a segment, or at its end.
abbrev pub is_in_or_at_end : Segment → ℕ → Bool
is_in_or_at_end segment address = nat_le segment.vaddr address && nat_le address (segment.vaddr + segment.memsz)

-- What the definition at a position stands for, where it lies in its module or is absolute.
abbrev pub inside : Module → ℕ → ℕ → ℕ → Option Target
inside m position number value =
    if is_in_or_at_end m.text value || is_in_or_at_end m.memory value then Some (Inside position number) else None

abbrev pub class_target : Module → ℕ → ℕ → ℕ → SectionClass → Option Target
class_target m position number value Undefined = inside m position number value
class_target m position number value (Section section) = inside m position number value
class_target m position number value Absolute = Some (Fixed value)
class_target m position number value Common = None
class_target m position number value NearCommon = None

abbrev pub symbol_target : Module → ℕ → ℕ → Option DynSymbol → Option Target
symbol_target m position number None = None
symbol_target m position number (Some symbol) =
    class_target m position number symbol.value (section_class symbol.section)

abbrev pub member_target : Option Module → ℕ → ℕ → Option Target
member_target None position number = None
member_target (Some m) position number = symbol_target m position number (slice_get m.symbols number)

-- The same where the list has this number at the position.
abbrev pub number_target : List Module → Option ℕ → ℕ → ℕ → Option Target
number_target modules None position symbol = None
number_target modules (Some number) position symbol = member_target (slice_get modules number) position symbol

-- What a definition stands for; None where it lies in no segment of its module.
abbrev pub found_target : List Module → List ℕ → Found → Option Target
found_target modules list Nothing = Some Zero
found_target modules list Missing = None
found_target modules list (At position symbol) = number_target modules (slice_get list position) position symbol

unfoldable pub field_target : List Module → List ℕ → ℕ → List DynSymbol → Field → Option Target
field_target modules list position symbols field =
    found_target modules list (field_found modules list position symbols field)

abbrev pub target_or_zero : Option Target → Target
target_or_zero None = Zero
target_or_zero (Some target) = target

abbrev pub field_value : List Module → List ℕ → ℕ → List DynSymbol → Field → Target
field_value modules list position symbols field = target_or_zero (field_target modules list position symbols field)

-- What the fields of the members stand for, where the list begins at this position.
abbrev pub member_targets : List Module → List ℕ → ℕ → ℕ → List Target
member_targets modules list position number =
    map (field_value modules list position (symbols_of modules number)) (fields_of modules number)

abbrev pub targets_from : List Module → List ℕ → ℕ → List ℕ → List (List Target)
targets_from modules list position [] = []
targets_from modules list position (number ∷ rest) =
    member_targets modules list position number ∷ targets_from modules list (position + 1) rest
