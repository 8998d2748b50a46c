-- The relocation entries of a link where its module stands (SPRAB89, "DSBT Model" and "Dynamic Relocation").
use Rattle.std.specs.Prelude.{◌≡◌, ◌≢◌, ℕ, ◌+◌, ◌%◌, ◌^◌, ◌<◌, false, Bool, All, List, ◌∷◌, ◌++◌, None, Some, filter, length, if◌then◌else◌}
use Rattle.c6x_spec.specs.Memory.{IsOnMemory, Memory}
use Rattle.c6x_spec.specs.Parts.{HoldsPart}
use Rattle.c6x_elf.specs.declared.file.File.{File}
use Rattle.c6x_plan.specs.declared.link_plan.LinkPlan.{LinkPlan}
use Rattle.c6x_symbols.specs.Objects.{IsObject}
use Rattle.c6x_reloc.specs.Fields.{first_bit}
use Rattle.c6x_reloc.specs.Table.{row_of}
use Rattle.c6x_reloc.specs.declared.origin.Origin.TheVariants.{Nothing}
use Rattle.c6x_reloc.specs.declared.reloc_kind.RelocKind.{RelocKind}
use Rattle.c6x_reloc.specs.FieldBits.{last_bit}
use Rattle.c6x_reloc.specs.declared.field.Field.{Field}
use Rattle.c6x_layout.specs.declared.parts.Parts.{Parts}
use Rattle.c6x_symbols.specs.LinkEntries.{data_fields, is_dynamic, text_fields}
use Rattle.c6x_symbols.specs.declared.entry.Entry.{Entry}
use Rattle.c6x_link.specs.LinkEntries.{link_entries}
use Rattle.c6x_link.specs.Working.{working_of}
use Rattle.c6x_link.specs.Linked.{link_refusal, parts_of}
use Rattle.c6x_link_loads.specs.Loads.{module_of_parts}
use Rattle.c6x_module.specs.Valid.{IsValid}
use Rattle.c6x_module.specs.declared.module.Module.{Module}
use Rattle.c6x_place.specs.declared.target.Target.{Target}
use Rattle.c6x_load.specs.Values.{data_image, filled, shift_of}
use Rattle.c6x_reloc.specs.Shift.{origin_of}
use Rattle.c6x_relocated.specs.Holds.{HoldsAt}
use Rattle.c6x_relocated.specs.Moved.{Shifts, moved_inputs, moved_place}

-- A module is the one that the file of the parts of a link is read as.
pub record IsLinkedModule (p : Parts) (m : Module) : Type 0 where
  pub name : List ℕ
  pub is : m ≡ module_of_parts name p

-- A module stands in the memory: its text at `text`, and at `base` its data range, with the table and the dynamic fields
-- of its process.
pub record Stands (board : Memory) (m : Module) (text base : ℕ) (word : ℕ → ℕ) (address : Target → ℕ) (targets : List Target) : Type 0 where
  pub valid : IsValid m
  pub text_on : IsOnMemory board text m.text.memsz
  pub text_part : HoldsPart board (record { at = text; bytes = filled m.text })
  pub range_on : IsOnMemory board base m.memory.memsz
  pub range_part : HoldsPart board (record { at = base; bytes = (data_image false m word address targets).bytes })

-- How far it has moved.
abbrev pub shifts_of : Module → ℕ → ℕ → Shifts
shifts_of m text base = record { text = shift_of text m.text.vaddr; range = shift_of base m.memory.vaddr }

-- The fields that entries set in the segment of one of them.
abbrev pub fields_beside : Entry → List Entry → List Field
fields_beside e entries = if e.reference.in_text then text_fields entries else data_fields entries

-- The loader fills the field of an entry.
abbrev pub is_filled : Entry → Bool
is_filled e = is_dynamic e.reference

-- The place of a bit of an entry's field among the bits of its segment.
abbrev pub bit_of : Entry → RelocKind → ℕ → ℕ
bit_of e kind i = first_bit kind (e.at + e.reference.offset) + i

-- No later entry of a list names a bit of an entry's field, and none of the others whose fields the loader fills does.
pub record IsAlone (before : List Entry) (e : Entry) (after : List Entry) (kind : RelocKind) : Type 0 where
  pub later :
      (i : ℕ) → i < (row_of kind).width → last_bit (fields_beside e after) (bit_of e kind i) ≡ None
  pub filled :
      (i : ℕ) → i < (row_of kind).width → last_bit (fields_beside e (filter is_filled (before ++ after))) (bit_of e kind i) ≡ None

-- Where the module of a link stands, each relocation entry of the link that the loader does not fill, and that is alone,
-- holds the value of its kind: its symbol, its place, the table and its value word have moved with their segments.
abbrev pub LinkedFieldsHold : Type 0
LinkedFieldsHold =
    (objects : List File) (plan : LinkPlan)
    → All (IsObject false) objects
    → link_refusal objects plan ≡ None
    → (m : Module)
    → IsLinkedModule (parts_of (working_of objects plan)) m
    → (board : Memory) (text base : ℕ) (word : ℕ → ℕ) (address : Target → ℕ) (targets : List Target)
    → board.base + length board.bytes < 2 ^ 32
    → Stands board m text base word address targets
    → shift_of text m.text.vaddr % 32 ≡ 0
    → (found : ℕ) (before : List Entry) (e : Entry) (after : List Entry) (kind : RelocKind)
    → link_entries (working_of objects plan) ≡ before ++ e ∷ after
    → e.reference.kind ≡ Some kind
    → origin_of kind ≢ Nothing
    → is_dynamic e.reference ≡ false
    → IsAlone before e after kind
    → HoldsAt board (moved_place (shifts_of m text base) e.reference.in_text e.reference.inputs.p) kind
    (moved_inputs (shifts_of m text base) found (origin_of kind) e.reference)
