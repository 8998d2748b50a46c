-- All relocation entries of a link where its module stands in a process (SPRAB89, "DSBT Model" and "Dynamic Relocation").
use Rattle.std.specs.Prelude.{◌≡◌, ◌≢◌, ℕ, ◌+◌, ◌%◌, ◌^◌, ◌<◌, false, All, List, ◌∷◌, ◌++◌, None, Some, length}
use Rattle.c6x_spec.specs.Memory.{Memory}
use Rattle.c6x_elf.specs.declared.file.File.{File}
use Rattle.c6x_plan.specs.declared.link_plan.LinkPlan.{LinkPlan}
use Rattle.c6x_symbols.specs.Objects.{IsObject}
use Rattle.c6x_reloc.specs.declared.origin.Origin.TheVariants.{Nothing}
use Rattle.c6x_reloc.specs.declared.reloc_kind.RelocKind.{RelocKind}
use Rattle.c6x_symbols.specs.LinkEntries.{is_dynamic}
use Rattle.c6x_symbols.specs.declared.entry.Entry.{Entry}
use Rattle.c6x_link.specs.LinkEntries.{link_entries}
use Rattle.c6x_link.specs.Working.{working_of}
use Rattle.c6x_link.specs.Linked.{link_refusal, parts_of}
use Rattle.c6x_module.specs.declared.module.Module.{Module}
use Rattle.c6x_load.specs.Values.{shift_of, slot_word}
use Rattle.c6x_reloc.specs.Shift.{origin_of}
use Rattle.c6x_relocated.specs.Holds.{HoldsAt}
use Rattle.c6x_relocated.specs.Moved.{moved_inputs, moved_place}
use Rattle.c6x_relocated.specs.Filled.{Finding, IsMember, address_in, definition_address, targets_in}
use Rattle.c6x_relocated.specs.Relocated.{IsAlone, IsLinkedModule, Stands, shifts_of}

-- In every process that uses the module of a link, each relocation entry of the link with a field holds the value of its
-- kind, if its bits are named by no later entry and by no other one whose field the loader fills; where the loader fills
-- its own field, whatever else names its bits. Its place, its symbol, the table and its value word have moved with their
-- segments; an import stands where its definition does, for a PCR kind its stub does.
abbrev pub EntriesHold : Type 0
EntriesHold =
    (objects : List File) (plan : LinkPlan)
    → All (IsObject false) objects
    → link_refusal objects plan ≡ None
    → (m : Module)
    → IsLinkedModule (parts_of (working_of objects plan)) m
    → (board : Memory) (f : Finding) (position text base : ℕ)
    → board.base + length board.bytes < 2 ^ 32
    → IsMember f position m text base
    → Stands board m text base (slot_word f.modules f.list f.bases) (address_in f) (targets_in f position m)
    → shift_of text m.text.vaddr % 32 ≡ 0
    → (before : List Entry) (e : Entry) (after : List Entry) (kind : RelocKind)
    → link_entries (working_of objects plan) ≡ before ++ e ∷ after
    → e.reference.kind ≡ Some kind
    → origin_of kind ≢ Nothing
    → (is_dynamic e.reference ≡ false → IsAlone before e after kind)
    → HoldsAt board (moved_place (shifts_of m text base) e.reference.in_text e.reference.inputs.p) kind
    (moved_inputs (shifts_of m text base) (definition_address f position m e.symbol) (origin_of kind) e.reference)
