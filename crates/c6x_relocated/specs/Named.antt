-- The definitions of a module's imports, which a process finds by their names (SPRAB89, "Dynamic Linking").
use Rattle.std.specs.Prelude.{◌≡◌, ℕ, ◌<◌, true, List, ◌∷◌, ◌++◌, Some, length, slice_get}
use Rattle.c6x_dsbt.specs.declared.wanted.Wanted.{Wanted}
use Rattle.c6x_elf.specs.declared.file.File.{File}
use Rattle.c6x_symbols.specs.declared.region.Region.TheVariants.{Import}
use Rattle.c6x_plan.specs.declared.link_plan.LinkPlan.{LinkPlan}
use Rattle.c6x_symbols.specs.Bindings.{bound_at, is_imported}
use Rattle.c6x_symbols.specs.declared.entry.Entry.{Entry}
use Rattle.c6x_link.specs.LinkEntries.{link_entries}
use Rattle.c6x_link.specs.Targets.{import_symbol, target_of}
use Rattle.c6x_link.specs.Working.{Working, working_of}
use Rattle.c6x_link.specs.Linked.{parts_of}
use Rattle.c6x_module.specs.declared.module.Module.{Module}
use Rattle.c6x_place.specs.Definitions.{first_export, found_target, target_or_zero}
use Rattle.c6x_relocated.specs.Filled.{Finding, address_in, definition_address}
use Rattle.c6x_relocated.specs.Relocated.{IsLinkedModule}

-- Where the first export of a name stands that a member of the search list has; 0 where none has one.
unfoldable pub named_address : Finding → List ℕ → ℕ
named_address f name =
    address_in f (target_or_zero (found_target f.modules f.list (first_export f.modules name 0 f.list)))

-- A dynamic symbol of the module of a link is that of one of the link's imports, and its definition is found by the
-- import's name.
pub record IsNamed (w : Working) (m : Module) (f : Finding) (position symbol : ℕ) : Type 0 where
  pub number : ℕ
  pub below : number < length w.bindings
  pub imported : is_imported (bound_at w.bindings number) ≡ true
  pub symbol_is : symbol ≡ import_symbol w.bindings number
  pub address : definition_address f position m symbol ≡ named_address f (bound_at w.bindings number).name

-- So it is for each relocation entry of the link on an import, for each value word of one, and for each stub's word.
abbrev pub EntriesAreNamed : Type 0
EntriesAreNamed =
    (objects : List File) (plan : LinkPlan) (m : Module)
    → IsLinkedModule (parts_of (working_of objects plan)) m
    → (f : Finding) (position : ℕ) (before : List Entry) (e : Entry) (after : List Entry)
    → link_entries (working_of objects plan) ≡ before ++ e ∷ after
    → e.reference.target ≡ Import
    → IsNamed (working_of objects plan) m f position e.symbol

abbrev pub ValueWordsAreNamed : Type 0
ValueWordsAreNamed =
    (objects : List File) (plan : LinkPlan) (m : Module)
    → IsLinkedModule (parts_of (working_of objects plan)) m
    → (f : Finding) (position place : ℕ) (wanted : Wanted)
    → slice_get (working_of objects plan).words place ≡ Some wanted
    → (target_of (working_of objects plan) wanted).region ≡ Import
    → IsNamed (working_of objects plan) m f position (target_of (working_of objects plan) wanted).symbol

abbrev pub StubsAreNamed : Type 0
StubsAreNamed =
    (objects : List File) (plan : LinkPlan) (m : Module)
    → IsLinkedModule (parts_of (working_of objects plan)) m
    → (f : Finding) (position place number : ℕ)
    → slice_get (working_of objects plan).stubs place ≡ Some number
    → IsNamed (working_of objects plan) m f position (import_symbol (working_of objects plan).bindings number)
