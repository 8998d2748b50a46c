use Rattle.std.specs.Prelude.{ℕ, ◌*◌, ◌-◌, ◌^◌, ◌==◌, Bool, true, false, List, [], ◌∷◌, Option, None, Some, Result, ℤ, pos, neg_ℤ, if◌then◌else◌}
use Rattle.std.specs.Option.{ok_or}
use Rattle.c6x_reloc.specs.declared.kind_row.KindRow.{KindRow}
use Rattle.c6x_reloc.specs.declared.origin.Origin.{Origin}
use Rattle.c6x_reloc.specs.declared.origin.Origin.TheVariants.{Nothing, Absolute, Packet, Table, Got, Index, Slot}
use Rattle.c6x_reloc.specs.declared.reloc_error.RelocError.{RelocError}
use Rattle.c6x_reloc.specs.declared.reloc_error.RelocError.TheVariants.{Kind}
use Rattle.c6x_reloc.specs.declared.reloc_kind.RelocKind.{RelocKind}
use Rattle.c6x_reloc.specs.declared.reloc_kind.RelocKind.TheVariants.{NONE, ABS32, ABS16, ABS8, PCR_S21, PCR_S12, PCR_S7, ABS_S16, ABS_L16, ABS_H16, SBR_U15_B, SBR_U15_H, SBR_U15_W, SBR_S16, SBR_L16_B, SBR_L16_H, SBR_L16_W, SBR_H16_B, SBR_H16_H, SBR_H16_W, SBR_GOT_U15_W, SBR_GOT_L16_W, SBR_GOT_H16_W, DSBT_INDEX, JUMP_SLOT, ALIGN, FPHEAD, NOCMP}

-- The least and the greatest number that n bits can spell: signed, unsigned, or either of the two.
abbrev pub signed : ℕ → ℤ × ℤ
signed n = (neg_ℤ (pos (2 ^ (n - 1))), pos (2 ^ (n - 1) - 1))

abbrev pub unsigned : ℕ → ℤ × ℤ
unsigned n = (pos 0, pos (2 ^ n - 1))

abbrev pub either : ℕ → ℤ × ℤ
either n = (neg_ℤ (pos (2 ^ (n - 1))), pos (2 ^ n - 1))

-- Every value fits: the field takes the low bits.
abbrev pub any : ℤ × ℤ
any = signed 32

-- A row from its columns: the number, what the value is taken from, the power of two that divides it, the low bits
-- of the quotient that are left out, the field's lowest bit and width, the bytes of the number in which the field
-- stands, whether that number is an instruction's word, and the bounds of the quotient.
abbrev pub row : ℕ → Origin → ℕ → ℕ → ℕ → ℕ → ℕ → Bool → ℤ × ℤ → KindRow
row number origin step skip low width size instruction bounds =
    record {
      number = number;
      origin = origin;
      step = step;
      skip = skip;
      low = low;
      width = width;
      size = size;
      instruction = instruction;
      least = bounds.0;
      most = bounds.1;
    }

-- A kind without a field.
abbrev pub no_field : ℕ → KindRow
no_field number = row number Nothing 0 0 0 0 4 false any

-- A field that is a number of data, of so many bytes.
abbrev pub in_data : ℕ → Origin → ℕ → ℤ × ℤ → KindRow
in_data number origin size bounds = row number origin 0 0 0 (8 * size) size false bounds

-- A field of an instruction's word.
abbrev pub in_code : ℕ → Origin → ℕ → ℕ → ℕ → ℕ → ℤ × ℤ → KindRow
in_code number origin step skip low width bounds = row number origin step skip low width 4 true bounds

-- The relocation table (SPRAB89, "Relocation Types"; which numbers fit the fields without a sign or with
-- either is this project's own).
unfoldable pub row_of : RelocKind → KindRow
row_of NONE = no_field 0
row_of ABS32 = in_data 1 Absolute 4 any
row_of ABS16 = in_data 2 Absolute 2 (either 16)
row_of ABS8 = in_data 3 Absolute 1 (either 8)
row_of PCR_S21 = in_code 4 Packet 2 0 7 21 (signed 21)
row_of PCR_S12 = in_code 5 Packet 2 0 16 12 (signed 12)
row_of PCR_S7 = in_code 7 Packet 2 0 16 7 (signed 7)
row_of ABS_S16 = in_code 8 Absolute 0 0 7 16 (signed 16)
row_of ABS_L16 = in_code 9 Absolute 0 0 7 16 any
row_of ABS_H16 = in_code 10 Absolute 0 16 7 16 any
row_of SBR_U15_B = in_code 11 Table 0 0 8 15 (unsigned 15)
row_of SBR_U15_H = in_code 12 Table 1 0 8 15 (unsigned 15)
row_of SBR_U15_W = in_code 13 Table 2 0 8 15 (unsigned 15)
row_of SBR_S16 = in_code 14 Table 0 0 7 16 (signed 16)
row_of SBR_L16_B = in_code 15 Table 0 0 7 16 any
row_of SBR_L16_H = in_code 16 Table 1 0 7 16 any
row_of SBR_L16_W = in_code 17 Table 2 0 7 16 any
row_of SBR_H16_B = in_code 18 Table 0 16 7 16 any
row_of SBR_H16_H = in_code 19 Table 1 16 7 16 any
row_of SBR_H16_W = in_code 20 Table 2 16 7 16 any
row_of SBR_GOT_U15_W = in_code 21 Got 2 0 8 15 (unsigned 15)
row_of SBR_GOT_L16_W = in_code 22 Got 2 0 7 16 any
row_of SBR_GOT_H16_W = in_code 23 Got 2 16 7 16 any
row_of DSBT_INDEX = in_code 24 Index 0 0 8 15 (unsigned 15)
row_of JUMP_SLOT = in_data 27 Slot 4 any
row_of ALIGN = no_field 253
row_of FPHEAD = no_field 254
row_of NOCMP = no_field 255

-- The kinds. No number but theirs has a value here.
abbrev pub kinds : List RelocKind
kinds =
    NONE ∷ ABS32 ∷ ABS16 ∷ ABS8 ∷ PCR_S21 ∷ PCR_S12 ∷ PCR_S7 ∷ ABS_S16 ∷ ABS_L16 ∷ ABS_H16 ∷ SBR_U15_B ∷ SBR_U15_H
    ∷ SBR_U15_W ∷ SBR_S16 ∷ SBR_L16_B ∷ SBR_L16_H ∷ SBR_L16_W ∷ SBR_H16_B ∷ SBR_H16_H ∷ SBR_H16_W ∷ SBR_GOT_U15_W
    ∷ SBR_GOT_L16_W ∷ SBR_GOT_H16_W ∷ DSBT_INDEX ∷ JUMP_SLOT ∷ ALIGN ∷ FPHEAD ∷ NOCMP ∷ []

abbrev pub kind_in : List RelocKind → ℕ → Option RelocKind
kind_in [] number = None
kind_in (kind ∷ kinds) number = if number == (row_of kind).number then Some kind else kind_in kinds number

-- The kind with this number, or the refusal of a number without one.
unfoldable pub kind_or : ℕ → Result RelocKind RelocError
kind_or number = ok_or (kind_in kinds number) Kind
