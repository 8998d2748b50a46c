-- Which processes can be bound, and to what. The rules are this project's own, but for what the tables of DSBT ask
-- (SPRAB89, "DSBT Model").
use Rattle.std.specs.Prelude.{◌≡◌, ℕ, ◌+◌, ◌==◌, not, Bool, true, false, is_some, nat_le, nat_lt, List, [], ◌∷◌, ◌++◌, drop, slice_get, Option, None, Some, Result, Ok, Err, if◌then◌else◌}
use Rattle.c6x_spec.specs.Firsts.{◌<|>◌, first_along}
use Rattle.c6x_base.specs.Search.{has, search_of}
use Rattle.c6x_module.specs.Lookups.{symbols_of}
use Rattle.c6x_module.specs.declared.field.Field.{Field}
use Rattle.c6x_module.specs.declared.module.Module.{Module}
use Rattle.c6x_module.specs.declared.symbol.DynSymbol.{DynSymbol}
use Rattle.c6x_plan.specs.declared.limits.TheConstants.{MOST_SLOTS}
use Rattle.c6x_place.specs.Members.{index_of, slots_of, fields_of, needed_of, greatest_index, all_fields}
use Rattle.c6x_place.specs.Needs.{named_from, needs_of}
use Rattle.c6x_place.specs.Definitions.{field_found, field_target, targets_from}
use Rattle.c6x_place.specs.declared.bind_error.BindError.{BindError}
use Rattle.c6x_place.specs.declared.bind_error.BindError.TheVariants.{Rule, NoMemory}
use Rattle.c6x_place.specs.declared.bind_rule.BindRule.{BindRule}
use Rattle.c6x_place.specs.declared.bind_rule.BindRule.TheVariants.{ExecIndex, MissingModule, UnassignedIndex, DuplicateIndex, TableTooSmall, Unresolved, SymbolOutside, Count}
use Rattle.c6x_place.specs.declared.bound_process.BoundProcess.{BoundProcess}
use Rattle.c6x_place.specs.declared.found.Found.{Found}
use Rattle.c6x_place.specs.declared.found.Found.TheVariants.{Nothing, Missing, At}
use Rattle.c6x_place.specs.declared.limits.TheConstants.{MOST_FIELDS}

-- A process as the rules name it: its place in the plan and its name.
abbrev pub Called : Type 0
Called = ℕ × List ℕ

-- A broken rule of a process, with its number and its name.
abbrev pub Refusal : Type 0
Refusal = BindRule × (ℕ × (ℕ × List ℕ))

-- A rule that is broken exactly where the test fails.
unfoldable pub must : Bool → BindRule → ℕ → ℕ → List ℕ → Option Refusal
must holds rule process number name = if holds then None else Some (rule, (process, (number, name)))

-- L12: the executable's index is 0.
unfoldable pub exec_refusal : List Module → ℕ → List ℕ → ℕ → Option Refusal
exec_refusal modules process called start =
    must (index_of modules start == 0) ExecIndex process (index_of modules start) called

-- L16: each needed name is a module's. The number is that of the module that needs it.
unfoldable pub name_refusal : List Module → ℕ → ℕ → List ℕ → Option Refusal
name_refusal modules process number name =
    must (is_some (named_from name 0 modules)) MissingModule process number name

abbrev pub missing_refusal : List Module → ℕ → ℕ → Option Refusal
missing_refusal modules process number = first_along (name_refusal modules process number) (needed_of modules number)

-- L13: every module but the first has an index.
unfoldable pub unassigned_refusal : List Module → ℕ → List ℕ → ℕ → Option Refusal
unassigned_refusal modules process called number =
    must (not (index_of modules number == 0)) UnassignedIndex process number called

-- L14: no earlier member has the index; `earlier` are the indices of those.
unfoldable pub index_refusal : List Module → ℕ → List ℕ → List ℕ → ℕ → Option Refusal
index_refusal modules process called earlier number =
    must (not (has earlier (index_of modules number))) DuplicateIndex process number called

abbrev pub duplicates : List Module → ℕ → List ℕ → List ℕ → List ℕ → Option Refusal
duplicates modules process called earlier [] = None
duplicates modules process called earlier (number ∷ list) =
    index_refusal modules process called earlier number
    <|> duplicates modules process called (earlier ++ index_of modules number ∷ []) list

-- L15: every table has a slot for the greatest index.
unfoldable pub slots_refusal : List Module → ℕ → List ℕ → ℕ → ℕ → Option Refusal
slots_refusal modules process called greatest number =
    must (nat_lt greatest (slots_of modules number)) TableTooSmall process number called

-- The name of a field's symbol.
abbrev pub name_or : Option DynSymbol → List ℕ
name_or None = []
name_or (Some symbol) = symbol.name

abbrev pub is_found : Found → Bool
is_found Nothing = true
is_found Missing = false
is_found (At position symbol) = true

-- L17: the symbol of each field is found, or weak.
unfoldable pub found_refusal : List Module → List ℕ → ℕ → ℕ → ℕ → List DynSymbol → Field → Option Refusal
found_refusal modules list process position number symbols field =
    must (is_found (field_found modules list position symbols field)) Unresolved process number (name_or (slice_get symbols field.symbol))

-- L19: the definition of each field is absolute, or lies inside or at the end of a segment of its module.
unfoldable pub outside_refusal : List Module → List ℕ → ℕ → ℕ → ℕ → List DynSymbol → Field → Option Refusal
outside_refusal modules list process position number symbols field =
    must (is_some (field_target modules list position symbols field)) SymbolOutside process number (name_or (slice_get symbols field.symbol))

-- The same of the fields of the members, where the list begins at this position.
abbrev pub unresolved_from : List Module → List ℕ → ℕ → ℕ → List ℕ → Option Refusal
unresolved_from modules list process position [] = None
unresolved_from modules list process position (number ∷ rest) =
    first_along (found_refusal modules list process position number (symbols_of modules number)) (fields_of modules number)
    <|> unresolved_from modules list process (position + 1) rest

abbrev pub outside_from : List Module → List ℕ → ℕ → ℕ → List ℕ → Option Refusal
outside_from modules list process position [] = None
outside_from modules list process position (number ∷ rest) =
    first_along (outside_refusal modules list process position number (symbols_of modules number)) (fields_of modules number)
    <|> outside_from modules list process (position + 1) rest

-- L20: no table has too many slots, and the fields together are not too many.
unfoldable pub table_refusal : List Module → ℕ → List ℕ → ℕ → Option Refusal
table_refusal modules process called number =
    must (nat_le (slots_of modules number) MOST_SLOTS) Count process number called

unfoldable pub fields_refusal : List Module → ℕ → List ℕ → List ℕ → Option Refusal
fields_refusal modules process called list =
    must (nat_le (all_fields modules list) MOST_FIELDS) Count process 0 called

-- The rules on the tables of the members.
unfoldable pub indices_refusal : List Module → ℕ → List ℕ → List ℕ → Option Refusal
indices_refusal modules process called list =
    first_along (unassigned_refusal modules process called) (drop 1 list)
    <|> (duplicates modules process called [] list
    <|> first_along (slots_refusal modules process called (greatest_index modules list)) list)

unfoldable pub counts_refusal : List Module → ℕ → List ℕ → List ℕ → Option Refusal
counts_refusal modules process called list =
    first_along (table_refusal modules process called) list <|> fields_refusal modules process called list

-- The rules on the members of a search list, in their order.
unfoldable pub list_refusal : List Module → ℕ → List ℕ → List ℕ → Option Refusal
list_refusal modules process called list =
    first_along (missing_refusal modules process) list
    <|> (indices_refusal modules process called list
    <|> (unresolved_from modules list process 0 list
    <|> (outside_from modules list process 0 list
    <|> counts_refusal modules process called list)))

-- The first broken rule of a process: its place in the plan, its name, its executable.
unfoldable pub process_refusal : List Module → ℕ → List ℕ → ℕ → Option Refusal
process_refusal modules process called start =
    exec_refusal modules process called start
    <|> list_refusal modules process called (search_of (needs_of modules) start)

-- What it is bound to, where it breaks none.
abbrev pub bound_to : List Module → List ℕ → BoundProcess
bound_to modules list = record { modules = list; targets = targets_from modules list 0 list }

unfoldable pub bound_process : List Module → ℕ → BoundProcess
bound_process modules start = bound_to modules (search_of (needs_of modules) start)

-- An answer passes the rules, or names the first broken one. Want of memory is free.
abbrev pub Passes : {X : Type 0} → Result X BindError → Option Refusal → Type 0
Passes (Ok x) refusal = refusal ≡ None
Passes (Err (Rule rule process number name)) refusal = refusal ≡ Some (rule, (process, (number, name)))
Passes (Err NoMemory) refusal = Unit {0}
