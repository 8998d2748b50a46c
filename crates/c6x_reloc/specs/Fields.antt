use Rattle.std.specs.Prelude.{◌≡◌, ℕ, ◌+◌, ◌*◌, ◌%◌, ◌^◌, ◌<◌, ◌≤◌, List, length}
use Rattle.std.specs.Int.{bit_at}
use Rattle.c6x_spec.specs.Fields.{bits_of, IsOutside}
use Rattle.c6x_spec.specs.Numbers.{bit_in, number_in}
use Rattle.c6x_reloc.specs.Table.{row_of}
use Rattle.c6x_reloc.specs.declared.reloc_kind.RelocKind.{RelocKind}

-- The number at a place of a kind.
abbrev pub number_at : RelocKind → List ℕ → ℕ → ℕ
number_at kind bytes place = number_in (row_of kind).size bytes place

-- The field's lowest bit among the bits of the bytes.
unfoldable pub first_bit : RelocKind → ℕ → ℕ
first_bit kind place = 8 * place + (row_of kind).low

-- The place of a field lies in the bytes, and they hold a value there: its low bits stand in the field. A kind
-- without a field holds always.
pub record HoldsValue (bytes : List ℕ) (place : ℕ) (kind : RelocKind) (value : ℕ) : Type 0 where
  pub inside : 1 ≤ (row_of kind).width → place + (row_of kind).size ≤ length bytes
  pub field :
      bits_of (number_at kind bytes place) (row_of kind).low (row_of kind).width ≡ value % 2 ^ (row_of kind).width

-- The new bytes have the value in the field at a place, bit by bit, and every other bit as it was.
pub record SetsField (old : List ℕ) (place : ℕ) (kind : RelocKind) (value : ℕ) (new : List ℕ) : Type 0 where
  pub len : length new ≡ length old
  pub field : (i : ℕ) → i < (row_of kind).width → bit_in new (first_bit kind place + i) ≡ bit_at value i
  pub others :
      (i : ℕ) → IsOutside (first_bit kind place) (row_of kind).width i → bit_in new i ≡ bit_in old i
