-- The word of an instruction, as a function of the instruction: its row's fields put together.

use Rattle.std.specs.Prelude.{ℕ, ◌+◌, ◌*◌, ◌^◌, nat_lt, Bool, true, false, ◌&&◌, List, [], ◌∷◌, Option, None, Some, if◌then◌else◌}
use Rattle.std.specs.Option.{option_map, option_and_then}
use Rattle.c6x_encoding.specs.declared.arith.Arith.{Arith}
use Rattle.c6x_encoding.specs.declared.arith.Arith.TheVariants.{Add, Sub, And, Or, Xor, CmpEq, CmpGt, CmpLt, CmpGtu, CmpLtu, Shl, Shr, Shru, Mpy, Mpyu}
use Rattle.c6x_encoding.specs.declared.form.Form.{Form}
use Rattle.c6x_encoding.specs.declared.form.Form.TheVariants.{Two as TwoForm, Move as MoveForm, Branch as BranchForm, Callp as CallpForm, BranchNop as BranchNopForm, BranchReg as BranchRegForm, BranchRegNop as BranchRegNopForm, AddKpc as AddKpcForm, Nop as NopForm, Short as ShortForm, Long as LongForm}
use Rattle.c6x_encoding.specs.declared.instr.Instr.{Instr}
use Rattle.c6x_encoding.specs.declared.move_kind.MoveKind.{MoveKind}
use Rattle.c6x_encoding.specs.declared.move_kind.MoveKind.TheVariants.{Mvk, Mvkh, Addk}
use Rattle.c6x_encoding.specs.declared.op.Op.{Op}
use Rattle.c6x_encoding.specs.declared.op.Op.TheVariants.{Nop, Short}
use Rattle.c6x_encoding.specs.declared.unit_kind.UnitKind.{UnitKind}
use Rattle.c6x_encoding.specs.declared.unit_kind.UnitKind.TheVariants.{L, S, D, M}
use Rattle.c6x_encoding.specs.declared.operands.Layout.{Layout}
use Rattle.c6x_encoding.specs.declared.operands.Operands.{Operands}
use Rattle.c6x_encoding.specs.Spelling.{Part, Count, Mode, Condition, Dst, Src2, Constant16, Crossed, Field21, Field12, Field7, Waits, Chained, Slot, Fixed, Named, is_part, part_of, form_of, count_bits, two_slots, ending, on_s2, short_slots, long_slots}

-- The opcodes of .L, .S, .D and .M, by operation and whether src1 is a constant.
unfoldable pub l_code : Arith → Bool → Option ℕ
l_code Add false = Some 0x03
l_code Add true = Some 0x02
l_code Sub false = Some 0x07
l_code Sub true = Some 0x06
l_code And false = Some 0x7B
l_code And true = Some 0x7A
l_code Or false = Some 0x7F
l_code Or true = Some 0x7E
l_code Xor false = Some 0x6F
l_code Xor true = Some 0x6E
l_code CmpEq false = Some 0x53
l_code CmpEq true = Some 0x52
l_code CmpGt false = Some 0x47
l_code CmpGt true = Some 0x46
l_code CmpLt false = Some 0x57
l_code CmpLt true = Some 0x56
l_code CmpGtu false = Some 0x4F
l_code CmpLtu false = Some 0x5F
l_code _ _ = None

unfoldable pub s_code : Arith → Bool → Option ℕ
s_code Add false = Some 0x07
s_code Add true = Some 0x06
s_code Sub false = Some 0x17
s_code Sub true = Some 0x16
s_code And false = Some 0x1F
s_code And true = Some 0x1E
s_code Or false = Some 0x1B
s_code Or true = Some 0x1A
s_code Xor false = Some 0x0B
s_code Xor true = Some 0x0A
s_code Shl false = Some 0x33
s_code Shl true = Some 0x32
s_code Shr false = Some 0x37
s_code Shr true = Some 0x36
s_code Shru false = Some 0x27
s_code Shru true = Some 0x26
s_code _ _ = None

unfoldable pub d_code : Arith → Bool → Option ℕ
d_code Add false = Some 0x10
d_code Add true = Some 0x12
d_code Sub false = Some 0x11
d_code Sub true = Some 0x13
d_code _ _ = None

unfoldable pub m_code : Arith → Bool → Option ℕ
m_code Mpy false = Some 0x19
m_code Mpy true = Some 0x18
m_code Mpyu false = Some 0x1F
m_code _ _ = None

abbrev pub two_code : UnitKind → Arith → Bool → Option ℕ
two_code L arith constant = l_code arith constant
two_code S arith constant = s_code arith constant
two_code D arith constant = d_code arith constant
two_code M arith constant = m_code arith constant

-- The fields of an operation on two operands, but for its opcode.
abbrev pub two_fields : Layout → ℕ → Operands → List (ℕ × ℕ)
two_fields layout code o =
    (4, o.condition) ∷ (5, o.dst) ∷ (5, o.second) ∷ (5, o.first) ∷ (layout.cross, o.cross) ∷ (layout.code, code)
    ∷ (layout.low, layout.fixed) ∷ (1, o.side) ∷ (1, o.chained) ∷ []

-- How each unit draws x and its opcode.
abbrev pub layout_of : UnitKind → Layout
layout_of L = record { cross = 1; code = 7; low = 3; fixed = 0b110 }
layout_of S = record { cross = 1; code = 6; low = 4; fixed = 0b1000 }
layout_of D = record { cross = 0; code = 6; low = 5; fixed = 0b10000 }
layout_of M = record { cross = 1; code = 5; low = 5; fixed = 0b00000 }

abbrev pub move_code : MoveKind → ℕ
move_code Mvk = 0b01010
move_code Mvkh = 0b11010
move_code Addk = 0b10100

-- The slots of the row of a form.
abbrev pub slots_for : Form → Option (List Slot)
slots_for (TwoForm unit arith constant) = option_map (two_slots unit) (two_code unit arith constant)
slots_for (MoveForm kind) =
    Some (Named 4 Condition ∷ Named 5 Dst ∷ Named 16 Constant16 ∷ Fixed 5 (move_code kind) ∷ ending)
slots_for BranchForm = Some (Named 4 Condition ∷ Named 21 Field21 ∷ Fixed 5 0b00100 ∷ ending)
slots_for CallpForm = Some (Named 0 Condition ∷ Fixed 4 0b0001 ∷ Named 21 Field21 ∷ Fixed 5 0b00100 ∷ ending)
slots_for BranchNopForm =
    Some (Named 4 Condition ∷ Named 12 Field12 ∷ Named 3 Waits ∷ Fixed 11 0b00001001000 ∷ ending)
slots_for BranchRegForm =
    Some
    (Named 4 Condition ∷ Fixed 5 0 ∷ Named 5 Src2 ∷ Fixed 5 0 ∷ Named 1 Crossed ∷ Fixed 10 0b0011011000 ∷ on_s2)
slots_for BranchRegNopForm =
    Some
    (Named 4 Condition ∷ Fixed 5 1 ∷ Named 5 Src2 ∷ Fixed 2 0 ∷ Named 3 Waits ∷ Named 1 Crossed
    ∷ Fixed 10 0b0011011000 ∷ on_s2)
slots_for AddKpcForm =
    Some (Named 4 Condition ∷ Named 5 Dst ∷ Named 7 Field7 ∷ Named 3 Waits ∷ Fixed 11 0b00001011000 ∷ on_s2)
slots_for NopForm = Some (Named 0 Condition ∷ Fixed 15 0 ∷ Named 4 Count ∷ Fixed 12 0 ∷ Named 1 Chained ∷ [])
slots_for ShortForm = Some short_slots
slots_for LongForm = Some long_slots

-- The widths and the values of the slots.
abbrev pub fields_of : List Slot → (Part → ℕ) → List (ℕ × ℕ)
fields_of [] parts = []
fields_of (Fixed count value ∷ slots) parts = (count, value) ∷ fields_of slots parts
fields_of (Named count part ∷ slots) parts = (count, parts part) ∷ fields_of slots parts

-- How many bits the fields are.
abbrev pub widths : List (ℕ × ℕ) → ℕ
widths [] = 0
widths (field ∷ fields) = field.0 + widths fields

-- The fields behind a number, from its low end on.
abbrev pub joined : ℕ → List (ℕ × ℕ) → ℕ
joined word [] = word
joined word (field ∷ fields) = joined (word * 2 ^ field.0 + field.1) fields

abbrev pub all_fit : List (ℕ × ℕ) → Bool
all_fit [] = true
all_fit (field ∷ fields) = nat_lt field.1 (2 ^ field.0) && all_fit fields

-- The fields put together, where each value fits.
unfoldable pub joined_fields : List (ℕ × ℕ) → Option ℕ
joined_fields fields = if all_fit fields then Some (joined 0 fields) else None

-- The count and the mode are ones that a word may hold.
abbrev pub is_allowed : Op → Bool
is_allowed (Nop cycles) = is_part Count (count_bits cycles)
is_allowed (Short access unit_side value_side mode offset base register) = is_part Mode mode
is_allowed _ = true

-- The word of an instruction, where it has one.
unfoldable pub encoded : Instr → Option ℕ
encoded i =
    if is_allowed i.op
    then option_and_then (λ (slots : List Slot). joined_fields (fields_of slots (part_of i))) (slots_for (form_of i.op))
    else None
