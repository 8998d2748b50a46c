-- All entries of a link hold their values.
use Rattle.std.proofs.Common.{◌≡◌, ◌≢◌, ℕ, ◌+◌, ◌%◌, ◌^◌, ◌<◌, Bool, true, false, List, ◌∷◌, ◌++◌, length, None, Some, refl, sym, ◌∙◌, subst}
use Rattle.std.specs.Prelude.{All}
use Rattle.c6x_spec.specs.Memory.{Memory}
use Rattle.c6x_elf.specs.declared.file.File.{File}
use Rattle.c6x_plan.specs.declared.link_plan.LinkPlan.{LinkPlan}
use Rattle.c6x_symbols.specs.Objects.{IsObject}
use Rattle.c6x_reloc.specs.Table.{row_of}
use Rattle.c6x_reloc.specs.declared.origin.Origin.{Origin}
use Rattle.c6x_reloc.specs.declared.origin.Origin.TheVariants.{Absolute, Nothing}
use Rattle.c6x_reloc.specs.declared.reloc_kind.RelocKind.{RelocKind}
use Rattle.c6x_reloc.specs.declared.reloc_kind.RelocKind.TheVariants.{ABS32}
use Rattle.c6x_symbols.specs.LinkEntries.{is_dynamic}
use Rattle.c6x_symbols.specs.declared.entry.Entry.{Entry}
use Rattle.c6x_link.specs.LinkEntries.{link_entries}
use Rattle.c6x_link.specs.Working.{Working, working_of}
use Rattle.c6x_link.specs.Linked.{link_refusal, parts_of}
use Rattle.c6x_module.specs.declared.module.Module.{Module}
use Rattle.c6x_load.specs.Values.{shift_of, slot_word}
use Rattle.c6x_reloc.specs.Shift.{moved_by, origin_of}
use Rattle.c6x_relocated.specs.Holds.{HoldsAt}
use Rattle.c6x_relocated.specs.Moved.{Shifts, moved_inputs, moved_place}
use Rattle.c6x_relocated.specs.Filled.{Finding, IsMember, address_in, definition_address, targets_in}
use Rattle.c6x_relocated.specs.Relocated.{IsAlone, IsLinkedModule, Stands, shifts_of}
use Rattle.c6x_relocated.proofs.Fields.{are_kept, static_holds}
use Rattle.c6x_relocated.proofs.Filled.{filled_holds}
use Rattle.c6x_relocated.proofs.LinkedBits.{AreKept, dynamic_word}
use Rattle.c6x_relocated.proofs.LinkedParts.{HasParts, has_parts}

-- the kind of an entry that the loader fills is ABS32
word_origin : Absolute ≡ origin_of ABS32
unfolding row_of
word_origin = refl

as_word : (board : Memory) (by : Shifts) (found : ℕ) (e : Entry) (kind : RelocKind) → e.reference.kind ≡ Some kind
    → is_dynamic e.reference ≡ true
    → HoldsAt board (moved_by by.range e.reference.inputs.p) ABS32 (moved_inputs by found Absolute e.reference)
    → HoldsAt board (moved_place by e.reference.in_text e.reference.inputs.p) kind
    (moved_inputs by found (origin_of kind) e.reference)
as_word board by found e kind has dynamic holds =
    let word = dynamic_word e.reference dynamic in
    let same : ABS32 ≡ kind = cc (sym word.kind ∙ has) in
    let P : Bool → Type 0 = λ t. HoldsAt board (moved_place by t e.reference.inputs.p) ABS32
    (moved_inputs by found Absolute e.reference) in
    let O : Origin → Type 0 = λ o. HoldsAt board (moved_place by e.reference.in_text e.reference.inputs.p) ABS32
    (moved_inputs by found o e.reference) in
    let K : RelocKind → Type 0 = λ k. HoldsAt board (moved_place by e.reference.in_text e.reference.inputs.p) k
    (moved_inputs by found (origin_of k) e.reference) in
    subst K same (subst O word_origin (subst P (sym word.data_only) holds))

entry_holds : (w : Working) (m : Module) → AreKept w → HasParts (parts_of w) m
    → (board : Memory) (f : Finding) (position text base : ℕ) → board.base + length board.bytes < 2 ^ 32
    → IsMember f position m text base
    → Stands board m text base (slot_word f.modules f.list f.bases) (address_in f) (targets_in f position m)
    → shift_of text m.text.vaddr % 32 ≡ 0 → (before : List Entry) (e : Entry) (after : List Entry) (kind : RelocKind)
    → link_entries w ≡ before ++ e ∷ after → e.reference.kind ≡ Some kind → origin_of kind ≢ Nothing
    → (is_dynamic e.reference ≡ false → IsAlone before e after kind)
    → HoldsAt board (moved_place (shifts_of m text base) e.reference.in_text e.reference.inputs.p) kind
    (moved_inputs (shifts_of m text base) (definition_address f position m e.symbol) (origin_of kind) e.reference)
entry_holds w m kept has_of board f position text base ends member stands multiple before e after kind split has some
    alone = either (is_dynamic e.reference) refl
  where
    either : (t : Bool) → is_dynamic e.reference ≡ t → HoldsAt board
        (moved_place (shifts_of m text base) e.reference.in_text e.reference.inputs.p) kind
        (moved_inputs (shifts_of m text base) (definition_address f position m e.symbol) (origin_of kind) e.reference)
    either true dynamic =
        as_word board (shifts_of m text base) (definition_address f position m e.symbol) e kind has dynamic
        (filled_holds w m has_of board f position text base ends member stands before e after split dynamic)
    either false static =
        static_holds w m kept has_of board text base (slot_word f.modules f.list f.bases) (address_in f)
        (targets_in f position m) ends stands multiple (definition_address f position m e.symbol) before e after
        kind split has some static (alone static)

pub linked_entries : (objects : List File) (plan : LinkPlan) → All (IsObject false) objects
    → link_refusal objects plan ≡ None → (m : Module) → IsLinkedModule (parts_of (working_of objects plan)) m
    → (board : Memory) (f : Finding) (position text base : ℕ) → board.base + length board.bytes < 2 ^ 32
    → IsMember f position m text base
    → Stands board m text base (slot_word f.modules f.list f.bases) (address_in f) (targets_in f position m)
    → shift_of text m.text.vaddr % 32 ≡ 0 → (before : List Entry) (e : Entry) (after : List Entry) (kind : RelocKind)
    → link_entries (working_of objects plan) ≡ before ++ e ∷ after → e.reference.kind ≡ Some kind
    → origin_of kind ≢ Nothing → (is_dynamic e.reference ≡ false → IsAlone before e after kind)
    → HoldsAt board (moved_place (shifts_of m text base) e.reference.in_text e.reference.inputs.p) kind
    (moved_inputs (shifts_of m text base) (definition_address f position m e.symbol) (origin_of kind) e.reference)
linked_entries objects plan all none m linked =
    entry_holds (working_of objects plan) m (are_kept objects plan all none)
    (has_parts (parts_of (working_of objects plan)) m linked)
