-- What the NEEDED entries name (gABI chapter 5, "Shared Object Dependencies"): a name is that of a module of the plan.
use Rattle.std.specs.Prelude.{ℕ, ◌+◌, List, [], ◌∷◌, map, Option, None, Some, if◌then◌else◌}
use Rattle.std.specs.Str.{bytes_eq}
use Rattle.c6x_base.specs.Search.{Needs}
use Rattle.c6x_module.specs.declared.module.Module.{Module}

-- The number of the module with this name, where the first of these modules has the number `from`.
abbrev pub named_from : List ℕ → ℕ → List Module → Option ℕ
named_from name from [] = None
named_from name from (m ∷ modules) = if bytes_eq m.name name then Some from else named_from name (from + 1) modules

abbrev pub with_number : Option ℕ → List ℕ → List ℕ
with_number None numbers = numbers
with_number (Some number) numbers = number ∷ numbers

-- The numbers of the modules with these names; a name that no module has is left out.
abbrev pub numbers_of : List Module → List (List ℕ) → List ℕ
numbers_of modules [] = []
numbers_of modules (name ∷ names) = with_number (named_from name 0 modules) (numbers_of modules names)

abbrev pub needs_row : List Module → Module → List ℕ
needs_row modules m = numbers_of modules m.needed

-- For each module which modules it needs.
unfoldable pub needs_of : List Module → Needs
needs_of modules = map (needs_row modules) modules
