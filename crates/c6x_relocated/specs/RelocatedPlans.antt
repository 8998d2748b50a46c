-- The entries of a link in every process that uses its module (SPRAB89, "DSBT Model" and "Dynamic Relocation").
use Rattle.std.specs.Prelude.{◌≡◌, ◌≢◌, ℕ, ◌+◌, ◌*◌, false, All, List, ◌∷◌, ◌++◌, None, Some, slice_get}
use Rattle.c6x_spec.specs.Memory.{Memory}
use Rattle.c6x_elf.specs.declared.file.File.{File}
use Rattle.c6x_plan.specs.declared.link_plan.LinkPlan.{LinkPlan}
use Rattle.c6x_plan.specs.declared.process_plan.ProcessPlan.{ProcessPlan}
use Rattle.c6x_reloc.specs.declared.origin.Origin.TheVariants.{Nothing}
use Rattle.c6x_reloc.specs.declared.reloc_kind.RelocKind.{RelocKind}
use Rattle.c6x_reloc.specs.declared.reloc_kind.RelocKind.TheVariants.{ABS32}
use Rattle.c6x_symbols.specs.Objects.{IsObject}
use Rattle.c6x_symbols.specs.declared.region.Region.TheVariants.{Import}
use Rattle.c6x_dsbt.specs.declared.wanted.Wanted.{Wanted}
use Rattle.c6x_symbols.specs.LinkEntries.{is_dynamic}
use Rattle.c6x_symbols.specs.declared.entry.Entry.{Entry}
use Rattle.c6x_link.specs.LinkEntries.{link_entries}
use Rattle.c6x_link.specs.Targets.{import_symbol, target_of}
use Rattle.c6x_link.specs.Working.{Working, working_of}
use Rattle.c6x_link.specs.Linked.{link_refusal, parts_of}
use Rattle.c6x_module.specs.declared.module.Module.{Module}
use Rattle.c6x_place.specs.declared.bound_process.BoundProcess.{BoundProcess}
use Rattle.c6x_place.specs.declared.placement.Placement.{Placement}
use Rattle.c6x_load.specs.Values.{shift_of}
use Rattle.c6x_reloc.specs.Shift.{moved_by, origin_of}
use Rattle.c6x_relocated.specs.Holds.{HoldsAt}
use Rattle.c6x_relocated.specs.Moved.{moved_inputs, moved_place}
use Rattle.c6x_relocated.specs.Filled.{Finding, IsMember, definition_address}
use Rattle.c6x_relocated.specs.Named.{IsNamed}
use Rattle.c6x_relocated.specs.Relocated.{IsAlone, IsLinkedModule, shifts_of}
use Rattle.c6x_relocated.specs.ValueWords.{stub_word_at, word_inputs, word_symbol}
use Rattle.c6x_relocated.specs.Plans.{AreLoaded, IsFinding}

-- A link holds in a process that has its module at a position of the search list: its entries hold the values of their
-- kinds, where S, P, the table and the value word have moved with their segments, and the S of an import is the
-- definition's.
pub record LinkHolds (w : Working) (memory : Memory) (f : Finding) (position : ℕ) (m : Module) (text base : ℕ) :
    Type 0 where
  -- Each relocation entry that the loader fills does, and each other one whose bits no later entry names, and none that
  -- the loader fills.
  pub entries :
      (before : List Entry) (e : Entry) (after : List Entry) (kind : RelocKind)
      → link_entries w ≡ before ++ e ∷ after
      → e.reference.kind ≡ Some kind
      → origin_of kind ≢ Nothing
      → (is_dynamic e.reference ≡ false → IsAlone before e after kind)
      → HoldsAt memory (moved_place (shifts_of m text base) e.reference.in_text e.reference.inputs.p) kind
      (moved_inputs (shifts_of m text base) (definition_address f position m e.symbol) (origin_of kind) e.reference)
  -- Each value word holds the S of its symbol.
  pub words :
      (place : ℕ) (wanted : Wanted)
      → slice_get w.words place ≡ Some wanted
      → HoldsAt memory (moved_by (shift_of base m.memory.vaddr) (w.layout.words + 4 * place)) ABS32
      (word_inputs (word_symbol w m f position text base wanted))
  -- The word of each stub holds where the definition of its import stands.
  pub stubs :
      (place number : ℕ)
      → slice_get w.stubs place ≡ Some number
      → HoldsAt memory (moved_by (shift_of base m.memory.vaddr) (stub_word_at w place)) ABS32
      (word_inputs (definition_address f position m (import_symbol w.bindings number)))

-- The definitions of its imports are those that the process finds by their names.
pub record ImportsAreNamed (w : Working) (f : Finding) (position : ℕ) (m : Module) : Type 0 where
  pub entries :
      (before : List Entry) (e : Entry) (after : List Entry)
      → link_entries w ≡ before ++ e ∷ after
      → e.reference.target ≡ Import
      → IsNamed w m f position e.symbol
  pub words :
      (place : ℕ) (wanted : Wanted)
      → slice_get w.words place ≡ Some wanted
      → (target_of w wanted).region ≡ Import
      → IsNamed w m f position (target_of w wanted).symbol
  pub stubs :
      (place number : ℕ)
      → slice_get w.stubs place ≡ Some number
      → IsNamed w m f position (import_symbol w.bindings number)

-- Both: the link is relocated in the process.
pub record IsRelocated (w : Working) (memory : Memory) (f : Finding) (position : ℕ) (m : Module) (text base : ℕ) :
    Type 0 where
  pub hold : LinkHolds w memory f position m text base
  pub named : ImportsAreNamed w f position m

-- The module is that of a link of objects.
pub record IsOfLink (objects : List File) (plan : LinkPlan) (m : Module) : Type 0 where
  pub form : All (IsObject false) objects
  pub linked : link_refusal objects plan ≡ None
  pub is : IsLinkedModule (parts_of (working_of objects plan)) m

-- The law: in every process of a loaded plan that uses the module of a link, the link is relocated.
abbrev pub PlansAreRelocated : Type 0
PlansAreRelocated =
    (memory : Memory) (modules : List Module) (plans : List ProcessPlan) (bounds : List BoundProcess)
    (placement : Placement)
    → AreLoaded memory modules plans bounds placement
    → (process : ℕ) (f : Finding) → IsFinding modules bounds placement process f
    → (position : ℕ) (m : Module) (text base : ℕ) → IsMember f position m text base
    → (objects : List File) (plan : LinkPlan) → IsOfLink objects plan m
    → IsRelocated (working_of objects plan) memory f position m text base
