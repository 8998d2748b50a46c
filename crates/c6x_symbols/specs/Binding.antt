-- What a name is bound to (gABI chapter 4, "Symbol Table"; SPRAB89, "Dynamic Linking").
use Rattle.std.specs.Prelude.{ℕ, ◌+◌, ◌==◌, ◌&&◌, not, codes, Bool, true, false, List, [], ◌∷◌, Option, None, Some, is_none, if◌then◌else◌}
use Rattle.std.specs.Str.{bytes_eq}
use Rattle.c6x_elf.specs.Types.{Visibility}
use Rattle.c6x_elf.specs.Visibilities.{Internal, Hidden, Protected, Default}
use Rattle.c6x_symbols.specs.Rules.{Refusal, ◌<|>◌, must}
use Rattle.c6x_symbols.specs.declared.binding.Binding.{Binding}
use Rattle.c6x_symbols.specs.declared.binding.Binding.TheVariants.{Strong, Weak, Common as CommonBinding, Import, Table}
use Rattle.c6x_symbols.specs.declared.common.Common.{Common}
use Rattle.c6x_symbols.specs.declared.group.Group.{Group}
use Rattle.c6x_symbols.specs.declared.link_rule.LinkRule.TheVariants.{DuplicateStrong, HiddenUndefined}
use Rattle.c6x_symbols.specs.declared.source.Source.{Source}

-- The name of the table, which the linker defines where no object does.
unfoldable pub is_table : List ℕ → Bool
is_table name = bytes_eq name (codes "__c6xabi_DSBT_BASE")

-- A name is bound to the first of these that there is: the strong definition, the common, the first weak definition,
-- the table, an import.
abbrev pub without_definition : Bool → Bool → Binding
without_definition true all_weak = Table
without_definition false all_weak = Import all_weak

abbrev pub without_common : Option Source → Bool → Bool → Binding
without_common (Some source) table all_weak = Weak source.object source.symbol
without_common None table all_weak = without_definition table all_weak

abbrev pub without_strong : Option Common → Option Source → Bool → Bool → Binding
without_strong (Some common) weak table all_weak = CommonBinding common.size common.align common.near
without_strong None weak table all_weak = without_common weak table all_weak

abbrev pub bound_to : Option Source → Option Common → Option Source → Bool → Bool → Binding
bound_to (Some source) common weak table all_weak = Strong source.object source.symbol
bound_to None common weak table all_weak = without_strong common weak table all_weak

unfoldable pub binding_of : List ℕ → Group → Binding
binding_of name g = bound_to g.strong g.common g.weak (is_table name) g.all_weak

-- Other modules see a name of these visibilities.
abbrev pub is_shown : Visibility → Bool
is_shown Internal = false
is_shown Hidden = false
is_shown Protected = true
is_shown Default = true

-- Nothing defines the name.
abbrev pub is_undefined : Group → Bool
is_undefined g = is_none g.strong && (is_none g.common && is_none g.weak)

-- A second strong definition is told with its object (K1).
abbrev pub twice_refusal : List ℕ → Option ℕ → Option Refusal
twice_refusal name None = None
twice_refusal name (Some object) = Some (record { rule = DuplicateStrong; object = object; place = 0; name = name })

-- A name that no other module sees is defined, or the table's (K2).
abbrev pub is_lost : List ℕ → Group → Bool
is_lost name g = not (is_shown g.visibility) && (is_undefined g && not (is_table name))

unfoldable pub name_refusal : List ℕ → Group → Option Refusal
name_refusal name g =
    twice_refusal name g.second
    <|> must (not (is_lost name g)) (record { rule = HiddenUndefined; object = 0; place = 0; name = name })
