-- What the mentions of one name say together (gABI chapter 4, "Symbol Table": which of several definitions and commons
-- of a name is taken, and which visibility it has).
use Rattle.std.specs.Prelude.{ℕ, ◌==◌, ◌&&◌, not, max, Bool, false, true, List, [], ◌∷◌, map, filter, Option, None, Some, option_map, if◌then◌else◌}
use Rattle.std.specs.List.{fold, list_all, list_any}
use Rattle.std.specs.Str.{bytes_eq}
use Rattle.c6x_elf.specs.Types.{SectionClass, Symbol, SymbolBinding, Visibility}
use Rattle.c6x_elf.specs.Attributes.{strictest, symbol_binding, symbol_class, symbol_visibility}
use Rattle.c6x_elf.specs.Bindings.{Local, Global, Weak}
use Rattle.c6x_elf.specs.SectionClasses.{Undefined, Section, Absolute, Common as CommonClass, NearCommon}
use Rattle.c6x_elf.specs.Visibilities.{Default}
use Rattle.c6x_symbols.specs.Mentions.{Named}
use Rattle.c6x_symbols.specs.declared.common.Common.{Common}
use Rattle.c6x_symbols.specs.declared.group.Group.{Group}
use Rattle.c6x_symbols.specs.declared.mention.Mention.{Mention}
use Rattle.c6x_symbols.specs.declared.source.Source.{Source}

-- A symbol is defined where it has a section or is absolute, and is a common by its own section numbers.
abbrev pub class_defines : SectionClass → Bool
class_defines Undefined = false
class_defines (Section number) = true
class_defines Absolute = true
class_defines CommonClass = false
class_defines NearCommon = false

abbrev pub class_is_common : SectionClass → Bool
class_is_common Undefined = false
class_is_common (Section number) = false
class_is_common Absolute = false
class_is_common CommonClass = true
class_is_common NearCommon = true

abbrev pub class_is_near : SectionClass → Bool
class_is_near Undefined = false
class_is_near (Section number) = false
class_is_near Absolute = false
class_is_near CommonClass = false
class_is_near NearCommon = true

abbrev pub binding_is_weak : SymbolBinding → Bool
binding_is_weak Local = false
binding_is_weak Global = false
binding_is_weak Weak = true

abbrev pub is_weak : Mention → Bool
is_weak m = binding_is_weak (symbol_binding m.symbol)

abbrev pub is_definition : Mention → Bool
is_definition m = class_defines (symbol_class m.symbol)

abbrev pub is_strong : Mention → Bool
is_strong m = is_definition m && not (is_weak m)

abbrev pub is_weak_definition : Mention → Bool
is_weak_definition m = is_definition m && is_weak m

abbrev pub is_common : Mention → Bool
is_common m = class_is_common (symbol_class m.symbol)

abbrev pub is_near : Mention → Bool
is_near m = class_is_near (symbol_class m.symbol)

abbrev pub source_of : Mention → Source
source_of m = record { object = m.object; symbol = m.number }

abbrev pub object_of : Mention → ℕ
object_of m = m.object

-- The first and the second mention that meet a test.
abbrev pub first_where : (Mention → Bool) → List Mention → Option Mention
first_where test [] = None
first_where test (m ∷ ms) = if test m then Some m else first_where test ms

abbrev pub second_where : (Mention → Bool) → List Mention → Option Mention
second_where test [] = None
second_where test (m ∷ ms) = if test m then first_where test ms else second_where test ms

-- The greatest size and the greatest alignment, which is a common's value.
abbrev pub greatest_size : List Mention → ℕ
greatest_size [] = 0
greatest_size (m ∷ ms) = max m.symbol.size (greatest_size ms)

abbrev pub greatest_value : List Mention → ℕ
greatest_value [] = 0
greatest_value (m ∷ ms) = max m.symbol.value (greatest_value ms)

abbrev pub has_size : ℕ → Mention → Bool
has_size size m = m.symbol.size == size

-- Commons together, if there is one: the greatest size, the greatest alignment, near where one of them is near, and the
-- first one of the greatest size.
abbrev pub common_with : List Mention → Mention → Common
common_with commons first = record {
  size = greatest_size commons;
  align = greatest_value commons;
  near = list_any is_near commons;
  source = source_of first;
}

unfoldable pub common_of : List Mention → Option Common
common_of commons = option_map (common_with commons) (first_where (has_size (greatest_size commons)) commons)

abbrev pub stricter : Visibility → Mention → Visibility
stricter visibility m = strictest visibility (symbol_visibility m.symbol)

-- What the mentions of one name say together.
unfoldable pub group_of : List Mention → Group
group_of ms = record {
  strong = option_map source_of (first_where is_strong ms);
  second = option_map object_of (second_where is_strong ms);
  common = common_of (filter is_common ms);
  weak = option_map source_of (first_where is_weak_definition ms);
  all_weak = list_all is_weak ms;
  visibility = fold stricter Default ms;
}

-- What no mention says.
unfoldable pub no_group : Group
no_group = record { strong = None; second = None; common = None; weak = None; all_weak = true; visibility = Default }

-- The mentions of one name.
abbrev pub has_name : List ℕ → Named → Bool
has_name name x = bytes_eq x.0 name

abbrev pub mention_in : Named → Mention
mention_in x = x.1

unfoldable pub of_name : List ℕ → List Named → List Mention
of_name name xs = map mention_in (filter (has_name name) xs)

-- The names in order of first appearance: the first one, and then the other names of the rest.
abbrev pub is_other : List ℕ → List ℕ → Bool
is_other name other = not (bytes_eq other name)

abbrev pub names_of : List Named → List (List ℕ)
names_of [] = []
names_of (x ∷ xs) = x.0 ∷ filter (is_other x.0) (names_of xs)
