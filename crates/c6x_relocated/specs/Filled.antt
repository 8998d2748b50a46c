-- The words that the loader fills where the module of a link stands (SPRAB89, "Dynamic Relocation").
use Rattle.std.specs.Prelude.{◌≡◌, ℕ, ◌+◌, ◌^◌, ◌<◌, false, true, All, List, ◌∷◌, ◌++◌, Option, None, Some, length, map, pos, slice_get}
use Rattle.c6x_spec.specs.Memory.{Memory}
use Rattle.c6x_elf.specs.declared.file.File.{File}
use Rattle.c6x_plan.specs.declared.link_plan.LinkPlan.{LinkPlan}
use Rattle.c6x_symbols.specs.Objects.{IsObject}
use Rattle.c6x_reloc.specs.declared.origin.Origin.TheVariants.{Absolute}
use Rattle.c6x_reloc.specs.declared.reloc_kind.RelocKind.TheVariants.{ABS32}
use Rattle.c6x_symbols.specs.LinkEntries.{is_dynamic}
use Rattle.c6x_symbols.specs.declared.entry.Entry.{Entry}
use Rattle.c6x_link.specs.LinkEntries.{link_entries}
use Rattle.c6x_link.specs.Working.{working_of}
use Rattle.c6x_link.specs.Linked.{link_refusal, parts_of}
use Rattle.c6x_module.specs.declared.field.Field.{Field}
use Rattle.c6x_module.specs.declared.module.Module.{Module}
use Rattle.c6x_place.specs.Definitions.{field_value}
use Rattle.c6x_place.specs.declared.target.Target.{Target}
use Rattle.c6x_load.specs.Values.{shift_of, slot_word, target_address, text_at}
use Rattle.c6x_reloc.specs.Shift.{moved_by}
use Rattle.c6x_relocated.specs.Holds.{HoldsAt}
use Rattle.c6x_relocated.specs.Moved.{moved_inputs}
use Rattle.c6x_relocated.specs.Relocated.{IsLinkedModule, Stands, shifts_of}

-- Where a process finds definitions: the modules of its plan, its search list, and where the texts and its data ranges
-- stand.
pub record Finding : Type 0 where
  pub modules : List Module
  pub list : List ℕ
  pub texts : List (Option ℕ)
  pub bases : List ℕ

abbrev pub address_in : Finding → Target → ℕ
address_in f target = target_address f.modules f.list f.texts f.bases target

-- What the fields of the member at a position stand for.
abbrev pub targets_in : Finding → ℕ → Module → List Target
targets_in f position m = map (field_value f.modules f.list position m.symbols) m.fields

-- A module is the member of the search list at a position, and stands at these places.
pub record IsMember (f : Finding) (position : ℕ) (m : Module) (text base : ℕ) : Type 0 where
  pub number : ℕ
  pub listed : slice_get f.list position ≡ Some number
  pub module_is : slice_get f.modules number ≡ Some m
  pub text_is : text_at f.texts number ≡ text
  pub base_is : slice_get f.bases position ≡ Some base

-- A word on a dynamic symbol, with nothing added.
abbrev pub word_on : ℕ → Field
word_on number = record { place = 0; slot_kind = true; symbol = number; addend = pos 0 }

-- The address of the definition of a dynamic symbol of a member; 0 where it is weak and not found.
unfoldable pub definition_address : Finding → ℕ → Module → ℕ → ℕ
definition_address f position m number =
    address_in f (field_value f.modules f.list position m.symbols (word_on number))

-- In every process, each entry of a link whose field the loader fills holds S + A, with S where its definition stands.
abbrev pub FilledFieldsHold : Type 0
FilledFieldsHold =
    (objects : List File) (plan : LinkPlan)
    → All (IsObject false) objects
    → link_refusal objects plan ≡ None
    → (m : Module)
    → IsLinkedModule (parts_of (working_of objects plan)) m
    → (board : Memory) (f : Finding) (position text base : ℕ)
    → board.base + length board.bytes < 2 ^ 32
    → IsMember f position m text base
    → Stands board m text base (slot_word f.modules f.list f.bases) (address_in f) (targets_in f position m)
    → (before : List Entry) (e : Entry) (after : List Entry)
    → link_entries (working_of objects plan) ≡ before ++ e ∷ after
    → is_dynamic e.reference ≡ true
    → HoldsAt board (moved_by (shift_of base m.memory.vaddr) e.reference.inputs.p) ABS32
    (moved_inputs (shifts_of m text base) (definition_address f position m e.symbol) Absolute e.reference)
