use Rattle.std.proofs.Common.{◌≡◌, ◌<◌, refl, lit<}
use Rattle.std.specs.Prelude.{Ok}
use Rattle.c6x_reloc.specs.Table.{kind_or, row_of}
use Rattle.c6x_reloc.specs.declared.reloc_kind.RelocKind.{RelocKind}
use Rattle.c6x_reloc.specs.declared.reloc_kind.RelocKind.TheVariants.{NONE, ABS32, ABS16, ABS8, PCR_S21, PCR_S12, PCR_S7, ABS_S16, ABS_L16, ABS_H16, SBR_U15_B, SBR_U15_H, SBR_U15_W, SBR_S16, SBR_L16_B, SBR_L16_H, SBR_L16_W, SBR_H16_B, SBR_H16_H, SBR_H16_W, SBR_GOT_U15_W, SBR_GOT_L16_W, SBR_GOT_H16_W, DSBT_INDEX, JUMP_SLOT, ALIGN, FPHEAD, NOCMP}

-- a kind's number leads back to it
pub kind_back : (kind : RelocKind) → kind_or (row_of kind).number ≡ Ok kind
unfolding kind_or row_of
kind_back NONE = refl
kind_back ABS32 = refl
kind_back ABS16 = refl
kind_back ABS8 = refl
kind_back PCR_S21 = refl
kind_back PCR_S12 = refl
kind_back PCR_S7 = refl
kind_back ABS_S16 = refl
kind_back ABS_L16 = refl
kind_back ABS_H16 = refl
kind_back SBR_U15_B = refl
kind_back SBR_U15_H = refl
kind_back SBR_U15_W = refl
kind_back SBR_S16 = refl
kind_back SBR_L16_B = refl
kind_back SBR_L16_H = refl
kind_back SBR_L16_W = refl
kind_back SBR_H16_B = refl
kind_back SBR_H16_H = refl
kind_back SBR_H16_W = refl
kind_back SBR_GOT_U15_W = refl
kind_back SBR_GOT_L16_W = refl
kind_back SBR_GOT_H16_W = refl
kind_back DSBT_INDEX = refl
kind_back JUMP_SLOT = refl
kind_back ALIGN = refl
kind_back FPHEAD = refl
kind_back NOCMP = refl

-- a kind's number is a byte
pub number_small : (kind : RelocKind) → (row_of kind).number < 256
unfolding row_of
number_small NONE = lit< tt
number_small ABS32 = lit< tt
number_small ABS16 = lit< tt
number_small ABS8 = lit< tt
number_small PCR_S21 = lit< tt
number_small PCR_S12 = lit< tt
number_small PCR_S7 = lit< tt
number_small ABS_S16 = lit< tt
number_small ABS_L16 = lit< tt
number_small ABS_H16 = lit< tt
number_small SBR_U15_B = lit< tt
number_small SBR_U15_H = lit< tt
number_small SBR_U15_W = lit< tt
number_small SBR_S16 = lit< tt
number_small SBR_L16_B = lit< tt
number_small SBR_L16_H = lit< tt
number_small SBR_L16_W = lit< tt
number_small SBR_H16_B = lit< tt
number_small SBR_H16_H = lit< tt
number_small SBR_H16_W = lit< tt
number_small SBR_GOT_U15_W = lit< tt
number_small SBR_GOT_L16_W = lit< tt
number_small SBR_GOT_H16_W = lit< tt
number_small DSBT_INDEX = lit< tt
number_small JUMP_SLOT = lit< tt
number_small ALIGN = lit< tt
number_small FPHEAD = lit< tt
number_small NOCMP = lit< tt
