-- The names of objects and what each is bound to, in order of first appearance.
use Rattle.std.specs.Prelude.{ℕ, ◌+◌, ◌&&◌, ◌||◌, not, Bool, true, false, List, [], ◌∷◌, map, slice_index_or, Option, None, Some, if◌then◌else◌}
use Rattle.c6x_elf.specs.declared.file.File.{File}
use Rattle.c6x_symbols.specs.Binding.{binding_of, is_shown, name_refusal}
use Rattle.c6x_symbols.specs.Groups.{group_of, names_of, no_group, of_name}
use Rattle.c6x_symbols.specs.Mentions.{Named, mentions_of}
use Rattle.c6x_symbols.specs.Rules.{Refusal, first_along}
use Rattle.c6x_symbols.specs.declared.binding.Binding.{Binding}
use Rattle.c6x_symbols.specs.declared.binding.Binding.TheVariants.{Strong, Weak, Common as CommonBinding, Import, Table}
use Rattle.c6x_symbols.specs.declared.common.Common.{Common}
use Rattle.c6x_symbols.specs.declared.group.Group.{Group}
use Rattle.c6x_symbols.specs.declared.source.Source.{Source}

-- A name and what its mentions say together.
pub record BoundName : Type 0 where
  pub name : List ℕ
  pub group : Group

abbrev pub bound_name : List Named → List ℕ → BoundName
bound_name xs name = record { name = name; group = group_of (of_name name xs) }

-- All names of objects.
unfoldable pub bindings_of : List File → List BoundName
bindings_of objects = map (bound_name (mentions_of objects)) (names_of (mentions_of objects))

-- The name with this number.
unfoldable pub no_name : BoundName
no_name = record { name = []; group = no_group }

abbrev pub bound_at : List BoundName → ℕ → BoundName
bound_at bindings number = slice_index_or bindings number no_name

abbrev pub binding_in : BoundName → Binding
binding_in b = binding_of b.name b.group

abbrev pub name_in : BoundName → List ℕ
name_in b = b.name

-- Where the symbol stands that a name's definition is written from: the definition that it is bound to, and for a
-- common the first one of the greatest size.
abbrev pub source_without_strong : Option Common → Option Source → Option Source
source_without_strong (Some common) weak = Some common.source
source_without_strong None weak = weak

abbrev pub source_by : Option Source → Option Common → Option Source → Option Source
source_by (Some source) common weak = Some source
source_by None common weak = source_without_strong common weak

unfoldable pub source_in : BoundName → Option Source
source_in b = source_by b.group.strong b.group.common b.group.weak

-- An export is a definition or a common of the module that other modules see; an import is a name that another module
-- defines.
abbrev pub is_defined : Binding → Bool
is_defined (Strong object symbol) = true
is_defined (Weak object symbol) = true
is_defined (CommonBinding size align near) = true
is_defined (Import weak) = false
is_defined Table = false

abbrev pub is_import : Binding → Bool
is_import (Strong object symbol) = false
is_import (Weak object symbol) = false
is_import (CommonBinding size align near) = false
is_import (Import weak) = true
is_import Table = false

unfoldable pub is_exported : BoundName → Bool
is_exported b = is_defined (binding_in b) && is_shown b.group.visibility

unfoldable pub is_imported : BoundName → Bool
is_imported b = is_import (binding_in b)

-- The numbers of the names that meet a test, the first name's being this.
abbrev pub numbers_where : (BoundName → Bool) → ℕ → List BoundName → List ℕ
numbers_where test number [] = []
numbers_where test number (b ∷ bs) =
    if test b then number ∷ numbers_where test (number + 1) bs else numbers_where test (number + 1) bs

unfoldable pub exports_of : List BoundName → List ℕ
exports_of bindings = numbers_where is_exported 0 bindings

unfoldable pub imports_of : List BoundName → List ℕ
imports_of bindings = numbers_where is_imported 0 bindings

-- The first broken rule of the names, in order.
abbrev pub bound_refusal : BoundName → Option Refusal
bound_refusal b = name_refusal b.name b.group

unfoldable pub names_refusal : List BoundName → Option Refusal
names_refusal bindings = first_along bound_refusal bindings
