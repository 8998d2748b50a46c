-- The field of a linked entry where its module stands.
use Rattle.std.specs.Prelude.{◌≡◌, ℕ, ◌+◌, ◌-◌, ◌%◌, true, false, List, ◌++◌, length, Ok, Some, None, ◌^◌}
use Rattle.std.specs.Int.{cast_unsigned, w32}
use Rattle.c6x_spec.specs.Memory.{IsOnMemory, Memory}
use Rattle.c6x_spec.specs.Parts.{HoldsPart}
use Rattle.c6x_reloc.specs.Fields.{HoldsValue}
use Rattle.c6x_reloc.specs.Value.{value_of}
use Rattle.c6x_reloc.specs.declared.inputs.Inputs.{Inputs}
use Rattle.c6x_reloc.specs.declared.reloc_kind.RelocKind.{RelocKind}
use Rattle.c6x_reloc.specs.declared.reloc_kind.RelocKind.TheVariants.{ABS32}
use Rattle.c6x_reloc.specs.FieldBits.{AreBytes, IsLast, IsPatchedBy}
use Rattle.c6x_reloc.specs.declared.field.Field.{Field}
use Rattle.c6x_symbols.specs.LinkEntries.{field_in, is_dynamic}
use Rattle.c6x_symbols.specs.EntryRules.{entry_rule}
use Rattle.c6x_symbols.specs.declared.entry.Entry.{Entry}
use Rattle.c6x_reloc.specs.Shift.{AreWords, origin_of}
use Rattle.c6x_relocated.specs.Moved.{Shifts, is_static, moved_inputs}

-- The field at an address holds the value that its kind has for these inputs.
pub record HoldsAt (m : Memory) (address : ℕ) (kind : RelocKind) (i : Inputs) : Type 0 where
  pub value : ℕ
  pub worth : value_of kind i ≡ Ok value
  pub held : HoldsValue m.bytes (address - m.base) kind value

-- An entry that was linked, and whose field the loader does not fill, with its kind and the value in its field.
pub record IsLinked (e : Entry) (kind : RelocKind) (worth : ℕ) : Type 0 where
  pub kind_is : e.reference.kind ≡ Some kind
  pub words : AreWords e.reference.inputs
  pub passes : entry_rule e.reference ≡ None
  pub static : is_static (origin_of kind) e.reference.target ≡ true
  pub shown : is_dynamic e.reference ≡ false
  pub is : value_of kind e.reference.inputs ≡ Ok worth

-- Bytes that the fields of a link patched stand on the memory, with what is behind them, and an entry whose bits no later
-- field has holds its value at the places where the module stands. It is so for text and data alike.
abbrev pub FieldsHold : Type 0
FieldsHold =
    (board : Memory) (at : ℕ) (old bytes behind : List ℕ) (fields : List Field) (by : Shifts) (found : ℕ) → by.text % 32 ≡ 0 → IsOnMemory board at (length (bytes ++ behind)) → AreBytes bytes → IsPatchedBy old fields bytes → HoldsPart board (record { at = at; bytes = bytes ++ behind }) → (e : Entry) (kind : RelocKind) (worth : ℕ) → IsLinked e kind worth → IsLast (length bytes) fields (field_in e kind worth) → HoldsAt board (at + (e.at + e.reference.offset)) kind (moved_inputs by found (origin_of kind) e.reference)

-- A word that the loader writes, as a field over the bytes of its range.
abbrev pub word_field : ℕ → ℕ → Field
word_field place word = record { place = place; kind = ABS32; value = word }

-- Where bytes stand that fields patched, a word of them whose bits no later field has holds the value of an entry of
-- kind ABS32 whose sum it is.
abbrev pub WordsHold : Type 0
WordsHold =
    (board : Memory) (at : ℕ) (old bytes behind : List ℕ) (fields : List Field) → IsOnMemory board at (length (bytes ++ behind)) → AreBytes bytes → IsPatchedBy old fields bytes → HoldsPart board (record { at = at; bytes = bytes ++ behind }) → (place word : ℕ) (i : Inputs) → IsLast (length bytes) fields (word_field place word) → word ≡ (i.s + cast_unsigned w32 i.a) % 2 ^ 32 → HoldsAt board (at + place) ABS32 i
