-- Bytes in which fields are set, bit by bit (SPRAB89, "Relocation").
use Rattle.std.specs.Prelude.{◌≡◌, ℕ, ◌+◌, ◌-◌, ◌*◌, ◌^◌, ◌<◌, ◌≤◌, ◌&&◌, nat_le, nat_lt, List, [], ◌∷◌, ◌++◌, Option, None, Some, length, map, slice_index, if◌then◌else◌}
use Rattle.std.specs.Int.{bit_at}
use Rattle.std.specs.List.{range_with_len}
use Rattle.c6x_spec.specs.Numbers.{bit_in}
use Rattle.c6x_reloc.specs.Fields.{first_bit}
use Rattle.c6x_reloc.specs.Table.{row_of}
use Rattle.c6x_reloc.specs.declared.field.Field.{Field}

-- The place of a field's lowest bit among the bits of the bytes.
abbrev pub lowest : Field → ℕ
lowest f = first_bit f.kind f.place

abbrev pub width : Field → ℕ
width f = (row_of f.kind).width

-- The field's bit at a place, if the field has that bit.
unfoldable pub field_bit : Field → ℕ → Option ℕ
field_bit f at =
    if nat_le (lowest f) at && nat_lt at (lowest f + width f) then Some (bit_at f.value (at - lowest f)) else None

abbrev pub or_else : Option ℕ → Option ℕ → Option ℕ
or_else None other = other
or_else (Some bit) other = Some bit

abbrev pub or_bit : Option ℕ → ℕ → ℕ
or_bit None was = was
or_bit (Some bit) was = bit

-- The bit at a place of the last of the fields that has it, if one has.
abbrev pub last_bit : List Field → ℕ → Option ℕ
last_bit [] at = None
last_bit (f ∷ fs) at = or_else (last_bit fs at) (field_bit f at)

-- Each bit is that of the last field that has it, else the bit that was there.
pub record IsPatchedBy (old : List ℕ) (fields : List Field) (new : List ℕ) : Type 0 where
  pub size : length new ≡ length old
  pub bits : (at : ℕ) → bit_in new at ≡ or_bit (last_bit fields at) (bit_in old at)

-- A field has bits, the bytes of its number are there, and its value fits.
pub record CanSet (f : Field) (len : ℕ) : Type 0 where
  pub some : 1 ≤ width f
  pub within : f.place + (row_of f.kind).size ≤ len
  pub fits : f.value < 2 ^ width f

abbrev pub AreBytes : List ℕ → Type 0
AreBytes bytes = (i : ℕ) → slice_index bytes i < 256

-- A field of the list, within the bytes, whose bits no later one has.
pub record IsLast (len : ℕ) (fields : List Field) (f : Field) : Type 0 where
  pub before : List Field
  pub after : List Field
  pub split : fields ≡ before ++ f ∷ after
  pub within : f.place + (row_of f.kind).size ≤ len
  pub alone : (i : ℕ) → i < width f → last_bit after (lowest f + i) ≡ None

-- The bytes whose bits are those, as a list.
abbrev pub patched_bit : List ℕ → List Field → ℕ → ℕ
patched_bit old fields at = or_bit (last_bit fields at) (bit_in old at)

abbrev pub byte_of_bits : (ℕ → ℕ) → ℕ → ℕ
byte_of_bits bit at =
    bit at + 2 * bit (at + 1) + 4 * bit (at + 2) + 8 * bit (at + 3) + 16 * bit (at + 4) + 32 * bit (at + 5)
    + 64 * bit (at + 6)
    + 128 * bit (at + 7)

abbrev pub patched_byte : List ℕ → List Field → ℕ → ℕ
patched_byte old fields number = byte_of_bits (patched_bit old fields) (8 * number)

unfoldable pub patched : List ℕ → List Field → List ℕ
patched old fields = map (patched_byte old fields) (range_with_len 0 (length old))
