-- What a row asks of a word beside the tests of the groups that the word meets: other fixed bits, and what fields may
-- hold.

use Rattle.std.specs.Prelude.{ℕ, nat_eq, Bool, true, ◌&&◌, List, [], ◌∷◌}
use Rattle.c6x_spec.specs.Fields.{bits_of}
use Rattle.c6x_encoding.specs.declared.form.Form.{Form}
use Rattle.c6x_encoding.specs.declared.form.Form.TheVariants.{Two, Callp, BranchNop, BranchReg, BranchRegNop, AddKpc, Nop, Short, Long}
use Rattle.c6x_encoding.specs.declared.unit_kind.UnitKind.{UnitKind}
use Rattle.c6x_encoding.specs.declared.unit_kind.UnitKind.TheVariants.{L, S, D, M}
use Rattle.c6x_encoding.specs.Spelling.{Condition, Count, Mode, is_part}

-- So many bits from a place on have a value.
pub record Bits : Type 0 where
  pub low : ℕ
  pub count : ℕ
  pub value : ℕ

abbrev pub all_hold : List Bits → ℕ → Bool
all_hold [] word = true
all_hold (bits ∷ rest) word = nat_eq (bits_of word bits.low bits.count) bits.value && all_hold rest word

abbrev pub unit_bits : UnitKind → List Bits
unit_bits L = []
unit_bits S = record { low = 4; count = 1; value = 0 } ∷ []
unit_bits D = record { low = 4; count = 2; value = 0 } ∷ []
unit_bits M = record { low = 4; count = 3; value = 0 } ∷ []

-- The other fixed bits of a form's row.
abbrev pub left_bits : Form → List Bits
left_bits (Two unit operation constant) = unit_bits unit
left_bits BranchNop = record { low = 12; count = 1; value = 0 } ∷ record { low = 4; count = 1; value = 0 } ∷ []
left_bits BranchReg =
    record { low = 13; count = 5; value = 0 } ∷ record { low = 4; count = 1; value = 0 }
    ∷ record { low = 1; count = 1; value = 1 } ∷ []
left_bits BranchRegNop =
    record { low = 23; count = 5; value = 1 } ∷ record { low = 16; count = 2; value = 0 }
    ∷ record { low = 4; count = 1; value = 0 } ∷ record { low = 1; count = 1; value = 1 } ∷ []
left_bits AddKpc =
    record { low = 12; count = 1; value = 0 } ∷ record { low = 4; count = 1; value = 0 }
    ∷ record { low = 1; count = 1; value = 1 } ∷ []
left_bits Nop = record { low = 17; count = 15; value = 0 } ∷ record { low = 1; count = 12; value = 0 } ∷ []
left_bits Short = record { low = 8; count = 1; value = 0 } ∷ []
left_bits Long = record { low = 2; count = 2; value = 3 } ∷ []
left_bits _ = []

-- The fields of the word hold what they may.
abbrev pub may_hold : Form → ℕ → Bool
may_hold Callp word = true
may_hold Nop word = is_part Count (bits_of word 13 4)
may_hold Short word = is_part Mode (bits_of word 9 4) && is_part Condition (bits_of word 28 4)
may_hold _ word = is_part Condition (bits_of word 28 4)

-- A word that the groups lead to the form is of its row.
abbrev pub is_of_row : Form → ℕ → Bool
is_of_row form word = all_hold (left_bits form) word && may_hold form word
