use Rattle.std.specs.Prelude.{ℕ, ◌+◌, ◌-◌, ◌%◌, ◌^◌, ◌==◌, ◌&&◌, not, Bool, false, Result, Ok, Err, ℤ, int_le, if◌then◌else◌}
use Rattle.std.specs.Int.{cast_signed, cast_unsigned, int_shr, w32}
use Rattle.c6x_reloc.specs.Table.{row_of}
use Rattle.c6x_reloc.specs.declared.inputs.Inputs.{Inputs}
use Rattle.c6x_reloc.specs.declared.kind_row.KindRow.{KindRow}
use Rattle.c6x_reloc.specs.declared.origin.Origin.{Origin}
use Rattle.c6x_reloc.specs.declared.origin.Origin.TheVariants.{Nothing, Absolute, Packet, Table, Got, Index, Slot}
use Rattle.c6x_reloc.specs.declared.reloc_error.RelocError.{RelocError}
use Rattle.c6x_reloc.specs.declared.reloc_error.RelocError.TheVariants.{Range, Align, Addend}
use Rattle.c6x_reloc.specs.declared.reloc_kind.RelocKind.{RelocKind}

-- A difference modulo 2^32.
abbrev pub less : ℕ → ℕ → ℕ
less sum from = (sum + (2 ^ 32 - from)) % 2 ^ 32

-- S + A modulo 2^32.
abbrev pub moved : Inputs → ℕ
moved i = (i.s + cast_unsigned w32 i.a) % 2 ^ 32

-- The address of the fetch packet of 32 bytes that has this address.
abbrev pub packet_of : ℕ → ℕ
packet_of at = at - at % 32

-- The sum that a kind is made of, modulo 2^32.
unfoldable pub sum_of : Origin → Inputs → ℕ
sum_of Nothing i = 0
sum_of Absolute i = moved i
sum_of Packet i = less (moved i) (packet_of i.p)
sum_of Table i = less (moved i) i.b
sum_of Got i = less i.g i.b
sum_of Index i = i.index
sum_of Slot i = i.s

-- The sum is a multiple of what the row divides by.
unfoldable pub divides : KindRow → ℕ → Bool
divides row sum = sum % 2 ^ row.step == 0

-- The quotient: the sum read as a signed number, and divided.
unfoldable pub quotient_of : KindRow → ℕ → ℤ
quotient_of row sum = int_shr (cast_signed w32 sum) row.step

unfoldable pub fits : KindRow → ℤ → Bool
fits row quotient = int_le row.least quotient && int_le quotient row.most

-- The field's bits as a number.
unfoldable pub field_of : KindRow → ℤ → ℕ
field_of row quotient = cast_unsigned w32 (int_shr quotient row.skip) % 2 ^ row.width

-- A kind that names a GOT word has an addend other than 0.
unfoldable pub has_addend : Origin → ℤ → Bool
has_addend Got a = not (cast_unsigned w32 a == 0)
has_addend Nothing a = false
has_addend Absolute a = false
has_addend Packet a = false
has_addend Table a = false
has_addend Index a = false
has_addend Slot a = false

-- A row's value, or the first refusal: an addend of a GOT kind, no multiple, out of range.
unfoldable pub row_value : KindRow → Inputs → Result ℕ RelocError
row_value row i =
    if has_addend row.origin i.a then Err Addend
    else if not (divides row (sum_of row.origin i)) then Err Align
    else if not (fits row (quotient_of row (sum_of row.origin i))) then Err Range
    else Ok (field_of row (quotient_of row (sum_of row.origin i)))

-- The value of a kind for these inputs.
abbrev pub value_of : RelocKind → Inputs → Result ℕ RelocError
value_of kind i = row_value (row_of kind) i
