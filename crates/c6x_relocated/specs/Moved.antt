-- The value of a relocation entry where its module stands, and the sums of the words that the loader fills.
use Rattle.std.specs.Prelude.{◌≡◌, ℕ, ◌+◌, ◌-◌, ◌%◌, ◌^◌, ◌<◌, Bool, true, false, None, Some, if◌then◌else◌}
use Rattle.c6x_reloc.specs.Value.{value_of}
use Rattle.c6x_reloc.specs.declared.inputs.Inputs.{Inputs}
use Rattle.c6x_reloc.specs.declared.origin.Origin.{Origin}
use Rattle.c6x_reloc.specs.declared.origin.Origin.TheVariants.{Absolute, Packet, Slot}
use Rattle.c6x_reloc.specs.declared.reloc_kind.RelocKind.{RelocKind}
use Rattle.c6x_symbols.specs.declared.region.Region.{Region}
use Rattle.c6x_symbols.specs.declared.region.Region.TheVariants.{Text, Data, Absolute as Fixed, Import}
use Rattle.c6x_symbols.specs.EntryRules.{entry_rule, is_fixed}
use Rattle.c6x_symbols.specs.declared.reference.Reference.{Reference}
use Rattle.c6x_reloc.specs.Shift.{AreWords, at_addresses, moved_by, origin_of}
use Rattle.c6x_load.specs.Values.{shift_of}

-- How far the text and the data range of a module stand from their addresses in the file, modulo 2^32.
pub record Shifts : Type 0 where
  pub text : ℕ
  pub range : ℕ

-- Where a symbol stands: with its segment, or where it was; an import where the loader found it, for a PCR kind its stub.
abbrev pub moved_symbol : Shifts → ℕ → Origin → Region → ℕ → ℕ
moved_symbol by found origin Text s = moved_by by.text s
moved_symbol by found origin Data s = moved_by by.range s
moved_symbol by found origin Fixed s = s
moved_symbol by found Packet Import s = moved_by by.text s
moved_symbol by found origin Import s = found

abbrev pub moved_place : Shifts → Bool → ℕ → ℕ
moved_place by in_text p = if in_text then moved_by by.text p else moved_by by.range p

-- The inputs of an entry's value where the module stands.
abbrev pub moved_inputs : Shifts → ℕ → Origin → Reference → Inputs
moved_inputs by found origin r =
    at_addresses r.inputs (moved_symbol by found origin r.target r.inputs.s) (moved_place by r.in_text r.inputs.p) (moved_by by.range r.inputs.b) (moved_by by.range r.inputs.g)

-- The entry's field is none that the loader fills.
abbrev pub is_static : Origin → Region → Bool
is_static Absolute target = is_fixed target
is_static Slot target = false
is_static origin target = true

-- Where an entry broke no rule, its value is the one at the link addresses.
abbrev pub ValueStays : Type 0
ValueStays =
    (by : Shifts) → by.text % 32 ≡ 0 → (found : ℕ) (kind : RelocKind) (r : Reference) → r.kind ≡ Some kind → AreWords r.inputs → entry_rule r ≡ None → is_static (origin_of kind) r.target ≡ true → value_of kind (moved_inputs by found (origin_of kind) r) ≡ value_of kind r.inputs

-- An entry on a symbol of the module is one on the start of its segment, with the rest in the addend. The word
-- that the loader writes is then the sum at the place where the symbol stands.
abbrev pub StartIsSum : Type 0
StartIsSum =
    (s a d start : ℕ) → start < 2 ^ 32 → (moved_by d start + ((s + a) % 2 ^ 32 + (2 ^ 32 - start)) % 2 ^ 32) % 2 ^ 32 ≡ (moved_by d s + a) % 2 ^ 32

-- The displacement of a range moves an address in it to its place there.
abbrev pub ShiftIsPlace : Type 0
ShiftIsPlace = (at vaddr place : ℕ) → vaddr < 2 ^ 32 → at + place < 2 ^ 32 → moved_by (shift_of at vaddr) (vaddr + place) ≡ at + place

-- A text that stands at a place of a step that is a multiple of 32 has moved by one.
abbrev pub TextShift : Type 0
TextShift =
    (at vaddr step : ℕ) → at % step ≡ vaddr % step → step % 32 ≡ 0 → vaddr % 32 ≡ 0 → vaddr < 2 ^ 32 → shift_of at vaddr % 32 ≡ 0
