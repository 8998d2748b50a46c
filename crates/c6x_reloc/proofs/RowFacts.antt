-- What the rows of all kinds have in common.
use Rattle.std.proofs.Common.{◌≡◌, ◌≢◌, ℕ, ◌+◌, ◌*◌, ◌%◌, ◌^◌, ◌<◌, ◌≤◌, Bool, true, false, not, Ok, Err, if◌then◌else◌, subst, refl, arith}
use Rattle.std.proofs.lemmas.Nat.{mod_below, pow_pos}
use Rattle.std.specs.Int.{cast_unsigned, int_shr, w32}
use Rattle.c6x_reloc.specs.Table.{row_of}
use Rattle.c6x_reloc.specs.Value.{row_value, value_of, field_of, has_addend, divides, fits, quotient_of, sum_of}
use Rattle.c6x_reloc.specs.declared.inputs.Inputs.{Inputs}
use Rattle.c6x_reloc.specs.declared.kind_row.KindRow.{KindRow}
use Rattle.c6x_reloc.specs.declared.origin.Origin.TheVariants.{Nothing}
use Rattle.c6x_reloc.specs.declared.reloc_error.RelocError.TheVariants.{Range, Align, Addend}
use Rattle.c6x_reloc.specs.declared.reloc_kind.RelocKind.{RelocKind}
use Rattle.c6x_reloc.specs.declared.reloc_kind.RelocKind.TheVariants.{NONE, ABS32, ABS16, ABS8, PCR_S21, PCR_S12, PCR_S7, ABS_S16, ABS_L16, ABS_H16, SBR_U15_B, SBR_U15_H, SBR_U15_W, SBR_S16, SBR_L16_B, SBR_L16_H, SBR_L16_W, SBR_H16_B, SBR_H16_H, SBR_H16_W, SBR_GOT_U15_W, SBR_GOT_L16_W, SBR_GOT_H16_W, DSBT_INDEX, JUMP_SLOT, ALIGN, FPHEAD, NOCMP}

-- a field lies in its number
pub row_within : (kind : RelocKind) → (row_of kind).low + (row_of kind).width ≤ 8 * (row_of kind).size
unfolding row_of
row_within NONE = omega arith
row_within ABS32 = omega arith
row_within ABS16 = omega arith
row_within ABS8 = omega arith
row_within PCR_S21 = omega arith
row_within PCR_S12 = omega arith
row_within PCR_S7 = omega arith
row_within ABS_S16 = omega arith
row_within ABS_L16 = omega arith
row_within ABS_H16 = omega arith
row_within SBR_U15_B = omega arith
row_within SBR_U15_H = omega arith
row_within SBR_U15_W = omega arith
row_within SBR_S16 = omega arith
row_within SBR_L16_B = omega arith
row_within SBR_L16_H = omega arith
row_within SBR_L16_W = omega arith
row_within SBR_H16_B = omega arith
row_within SBR_H16_H = omega arith
row_within SBR_H16_W = omega arith
row_within SBR_GOT_U15_W = omega arith
row_within SBR_GOT_L16_W = omega arith
row_within SBR_GOT_H16_W = omega arith
row_within DSBT_INDEX = omega arith
row_within JUMP_SLOT = omega arith
row_within ALIGN = omega arith
row_within FPHEAD = omega arith
row_within NOCMP = omega arith

-- a number has a byte
pub size_some : (kind : RelocKind) → 1 ≤ (row_of kind).size
unfolding row_of
size_some NONE = omega arith
size_some ABS32 = omega arith
size_some ABS16 = omega arith
size_some ABS8 = omega arith
size_some PCR_S21 = omega arith
size_some PCR_S12 = omega arith
size_some PCR_S7 = omega arith
size_some ABS_S16 = omega arith
size_some ABS_L16 = omega arith
size_some ABS_H16 = omega arith
size_some SBR_U15_B = omega arith
size_some SBR_U15_H = omega arith
size_some SBR_U15_W = omega arith
size_some SBR_S16 = omega arith
size_some SBR_L16_B = omega arith
size_some SBR_L16_H = omega arith
size_some SBR_L16_W = omega arith
size_some SBR_H16_B = omega arith
size_some SBR_H16_H = omega arith
size_some SBR_H16_W = omega arith
size_some SBR_GOT_U15_W = omega arith
size_some SBR_GOT_L16_W = omega arith
size_some SBR_GOT_H16_W = omega arith
size_some DSBT_INDEX = omega arith
size_some JUMP_SLOT = omega arith
size_some ALIGN = omega arith
size_some FPHEAD = omega arith
size_some NOCMP = omega arith

-- a kind that is made of something has a field
pub width_some : (kind : RelocKind) → (row_of kind).origin ≢ Nothing → 1 ≤ (row_of kind).width
unfolding row_of
width_some NONE some = absurd (some refl)
width_some ABS32 some = omega arith
width_some ABS16 some = omega arith
width_some ABS8 some = omega arith
width_some PCR_S21 some = omega arith
width_some PCR_S12 some = omega arith
width_some PCR_S7 some = omega arith
width_some ABS_S16 some = omega arith
width_some ABS_L16 some = omega arith
width_some ABS_H16 some = omega arith
width_some SBR_U15_B some = omega arith
width_some SBR_U15_H some = omega arith
width_some SBR_U15_W some = omega arith
width_some SBR_S16 some = omega arith
width_some SBR_L16_B some = omega arith
width_some SBR_L16_H some = omega arith
width_some SBR_L16_W some = omega arith
width_some SBR_H16_B some = omega arith
width_some SBR_H16_H some = omega arith
width_some SBR_H16_W some = omega arith
width_some SBR_GOT_U15_W some = omega arith
width_some SBR_GOT_L16_W some = omega arith
width_some SBR_GOT_H16_W some = omega arith
width_some DSBT_INDEX some = omega arith
width_some JUMP_SLOT some = omega arith
width_some ALIGN some = absurd (some refl)
width_some FPHEAD some = absurd (some refl)
width_some NOCMP some = absurd (some refl)

-- a value fits its field
row_fits : (row : KindRow) (i : Inputs) (v : ℕ) → row_value row i ≡ Ok v → v < 2 ^ row.width
unfolding row_value field_of
row_fits row i v is = first (has_addend row.origin i.a) is
  where
    field : ℕ
    field = cast_unsigned w32 (int_shr (quotient_of row (sum_of row.origin i)) row.skip) % 2 ^ row.width

    third : (b : Bool) → (if not b then Err Range else Ok field) ≡ Ok v → v < 2 ^ row.width
    third false e = absurd (cc e)
    third true e = let below : field < 2 ^ row.width = mod_below (cast_unsigned w32 (int_shr (quotient_of row (sum_of row.origin i)) row.skip)) (2 ^ row.width) (pow_pos row.width) in let is : field ≡ v = cc e in subst (λ (n : ℕ). n < 2 ^ row.width) is below

    second : (b : Bool) → (if not b then Err Align else (if not (fits row (quotient_of row (sum_of row.origin i))) then Err Range else Ok field)) ≡ Ok v → v < 2 ^ row.width
    second false e = absurd (cc e)
    second true e = third (fits row (quotient_of row (sum_of row.origin i))) e

    first : (b : Bool) → (if b then Err Addend else (if not (divides row (sum_of row.origin i)) then Err Align else (if not (fits row (quotient_of row (sum_of row.origin i))) then Err Range else Ok field))) ≡ Ok v → v < 2 ^ row.width
    first true e = absurd (cc e)
    first false e = second (divides row (sum_of row.origin i)) e

pub value_fits : (kind : RelocKind) (i : Inputs) (v : ℕ) → value_of kind i ≡ Ok v → v < 2 ^ (row_of kind).width
value_fits kind i v is = row_fits (row_of kind) i v is
