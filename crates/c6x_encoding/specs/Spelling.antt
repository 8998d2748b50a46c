-- Which word spells an instruction: the table of the instruction set, as a list of rows (SPRU732, "Instruction
-- Descriptions" and the opcode maps of the .D, .L, .M and .S units).

use Rattle.std.specs.Prelude.{◌≡◌, ℕ, ◌+◌, ◌-◌, ◌*◌, ◌^◌, ◌<◌, ◌⊎◌, nat_lt, nat_le, nat_eq, Bool, true, false, not, ◌&&◌, ◌||◌, IsTrue, List, [], ◌∷◌, if◌then◌else◌}
use Rattle.c6x_spec.specs.Fields.{bits_of}
use Rattle.c6x_base.specs.declared.side.Side.{Side}
use Rattle.c6x_base.specs.declared.side.Side.TheVariants.{A, B}
use Rattle.c6x_encoding.specs.declared.access.Access.{Access}
use Rattle.c6x_encoding.specs.declared.access.Access.TheVariants.{Ldhu, Ldbu, Ldb, Stb, Ldh, Sth, Ldw, Stw}
use Rattle.c6x_encoding.specs.declared.arith.Arith.{Arith}
use Rattle.c6x_encoding.specs.declared.arith.Arith.TheVariants.{Add, Sub, And, Or, Xor, CmpEq, CmpGt, CmpLt, CmpGtu, CmpLtu, Shl, Shr, Shru, Mpy, Mpyu}
use Rattle.c6x_encoding.specs.declared.cond.Cond.{Cond}
use Rattle.c6x_encoding.specs.declared.cond.Cond.TheVariants.{Always, If}
use Rattle.c6x_encoding.specs.declared.cond_reg.CondReg.{CondReg}
use Rattle.c6x_encoding.specs.declared.cond_reg.CondReg.TheVariants.{B0, B1, B2, A1, A2, A0}
use Rattle.c6x_encoding.specs.declared.first.First.{First}
use Rattle.c6x_encoding.specs.declared.first.First.TheVariants.{Register, Constant}
use Rattle.c6x_encoding.specs.declared.form.Form.{Form}
use Rattle.c6x_encoding.specs.declared.form.Form.TheVariants.{Two as TwoForm, Move as MoveForm, Branch as BranchForm, Callp as CallpForm, BranchNop as BranchNopForm, BranchReg as BranchRegForm, BranchRegNop as BranchRegNopForm, AddKpc as AddKpcForm, Nop as NopForm, Short as ShortForm, Long as LongForm}
use Rattle.c6x_encoding.specs.declared.instr.Instr.{Instr}
use Rattle.c6x_encoding.specs.declared.move_kind.MoveKind.{MoveKind}
use Rattle.c6x_encoding.specs.declared.move_kind.MoveKind.TheVariants.{Mvk, Mvkh, Addk}
use Rattle.c6x_encoding.specs.declared.op.Op.{Op}
use Rattle.c6x_encoding.specs.declared.op.Op.TheVariants.{Two, Move, Branch, Callp, BranchNop, BranchReg, BranchRegNop, AddKpc, Nop, Short, Long}
use Rattle.c6x_encoding.specs.declared.unit_kind.UnitKind.{UnitKind}
use Rattle.c6x_encoding.specs.declared.unit_kind.UnitKind.TheVariants.{L, S, D, M}

-- A named field of a word. `Condition` is creg with z, `Crossed` is x, `Sided` is s, `Chained` is p, `UnitSided` is y,
-- `Valued` is the register that is loaded or stored, and `Opcode` is which load or store it is.
pub data Part : Type 0 where
  Condition Dst Src2 Src1 Crossed Sided Chained : Part
  Constant16 Field21 Field12 Field7 Waits Count : Part
  Valued Based Offset5 Mode UnitSided Opcode Offset15 Base15 : Part

-- A run of bits of a row: bits with a fixed value, or a named field. The first number is how many bits they are.
pub data Slot : Type 0 where
  Fixed : ℕ → ℕ → Slot
  Named : ℕ → Part → Slot

-- A row of the table: a form of instruction, and its word from bit 31 down.
pub record Row : Type 0 where
  pub form : Form
  pub slots : List Slot

-- How many bits the slots are.
abbrev pub width : List Slot → ℕ
width [] = 0
width (Fixed count value ∷ slots) = count + width slots
width (Named count part ∷ slots) = count + width slots

-- A row names each part that its form has. A part of no bits stands in no word and is 0: no cross path in .D, and no
-- condition on NOP and CALLP.
abbrev pub operands : ℕ → List Slot → List Slot
operands cross rest =
    Named 4 Condition ∷ Named 5 Dst ∷ Named 5 Src2 ∷ Named 5 Src1 ∷ Named cross Crossed ∷ rest

abbrev pub ending : List Slot
ending = Named 1 Sided ∷ Named 1 Chained ∷ []

-- An operation on two operands, with its code in the unit's opcode field.
abbrev pub two_slots : UnitKind → ℕ → List Slot
two_slots L code = operands 1 (Fixed 7 code ∷ Fixed 3 0b110 ∷ ending)
two_slots S code = operands 1 (Fixed 6 code ∷ Fixed 4 0b1000 ∷ ending)
two_slots D code = operands 0 (Fixed 6 code ∷ Fixed 5 0b10000 ∷ ending)
two_slots M code = operands 1 (Fixed 5 code ∷ Fixed 5 0b00000 ∷ ending)

abbrev pub plain : UnitKind → Arith → ℕ → Row
plain unit arith code = record { form = TwoForm unit arith false; slots = two_slots unit code }

abbrev pub with_constant : UnitKind → Arith → ℕ → Row
with_constant unit arith code = record { form = TwoForm unit arith true; slots = two_slots unit code }

abbrev pub move_row : MoveKind → ℕ → Row
move_row kind code = record {
  form = MoveForm kind;
  slots = Named 4 Condition ∷ Named 5 Dst ∷ Named 16 Constant16 ∷ Fixed 5 code ∷ ending;
}

-- A side that the word does not name: .S2.
abbrev pub on_s2 : List Slot
on_s2 = Fixed 1 1 ∷ Named 1 Chained ∷ []

abbrev pub short_slots : List Slot
short_slots =
    Named 4 Condition ∷ Named 5 Valued ∷ Named 5 Based ∷ Named 5 Offset5 ∷ Named 4 Mode ∷ Fixed 1 0
    ∷ Named 1 UnitSided ∷ Named 3 Opcode ∷ Fixed 2 0b01 ∷ ending

abbrev pub long_slots : List Slot
long_slots =
    Named 4 Condition ∷ Named 5 Valued ∷ Named 15 Offset15 ∷ Named 1 Base15 ∷ Named 3 Opcode ∷ Fixed 2 0b11 ∷ ending

abbrev pub table : List Row
table =
    plain L Add 0x03 ∷ with_constant L Add 0x02 ∷ plain L Sub 0x07 ∷ with_constant L Sub 0x06
    ∷ plain L And 0x7B ∷ with_constant L And 0x7A ∷ plain L Or 0x7F ∷ with_constant L Or 0x7E
    ∷ plain L Xor 0x6F ∷ with_constant L Xor 0x6E ∷ plain L CmpEq 0x53 ∷ with_constant L CmpEq 0x52
    ∷ plain L CmpGt 0x47 ∷ with_constant L CmpGt 0x46 ∷ plain L CmpLt 0x57 ∷ with_constant L CmpLt 0x56
    ∷ plain L CmpGtu 0x4F ∷ plain L CmpLtu 0x5F
    ∷ plain S Add 0x07 ∷ with_constant S Add 0x06 ∷ plain S Sub 0x17 ∷ with_constant S Sub 0x16
    ∷ plain S And 0x1F ∷ with_constant S And 0x1E ∷ plain S Or 0x1B ∷ with_constant S Or 0x1A
    ∷ plain S Xor 0x0B ∷ with_constant S Xor 0x0A ∷ plain S Shl 0x33 ∷ with_constant S Shl 0x32
    ∷ plain S Shr 0x37 ∷ with_constant S Shr 0x36 ∷ plain S Shru 0x27 ∷ with_constant S Shru 0x26
    ∷ plain D Add 0x10 ∷ with_constant D Add 0x12 ∷ plain D Sub 0x11 ∷ with_constant D Sub 0x13
    ∷ plain M Mpy 0x19 ∷ with_constant M Mpy 0x18 ∷ plain M Mpyu 0x1F
    ∷ move_row Mvk 0b01010 ∷ move_row Mvkh 0b11010 ∷ move_row Addk 0b10100
    ∷ record { form = BranchForm; slots = Named 4 Condition ∷ Named 21 Field21 ∷ Fixed 5 0b00100 ∷ ending }
    ∷ record {
      form = CallpForm;
      slots = Named 0 Condition ∷ Fixed 4 0b0001 ∷ Named 21 Field21 ∷ Fixed 5 0b00100 ∷ ending;
    }
    ∷ record {
      form = BranchRegForm;
      slots =
          Named 4 Condition ∷ Fixed 5 0 ∷ Named 5 Src2 ∷ Fixed 5 0 ∷ Named 1 Crossed ∷ Fixed 10 0b0011011000 ∷ on_s2;
    }
    ∷ record {
      form = BranchRegNopForm;
      slots =
          Named 4 Condition ∷ Fixed 5 1 ∷ Named 5 Src2 ∷ Fixed 2 0 ∷ Named 3 Waits ∷ Named 1 Crossed
          ∷ Fixed 10 0b0011011000 ∷ on_s2;
    }
    ∷ record {
      form = BranchNopForm;
      slots = Named 4 Condition ∷ Named 12 Field12 ∷ Named 3 Waits ∷ Fixed 11 0b00001001000 ∷ ending;
    }
    ∷ record {
      form = AddKpcForm;
      slots =
          Named 4 Condition ∷ Named 5 Dst ∷ Named 7 Field7 ∷ Named 3 Waits ∷ Fixed 11 0b00001011000 ∷ on_s2;
    }
    ∷ record {
      form = NopForm;
      slots = Named 0 Condition ∷ Fixed 15 0 ∷ Named 4 Count ∷ Fixed 12 0 ∷ Named 1 Chained ∷ [];
    }
    ∷ record { form = ShortForm; slots = short_slots }
    ∷ record { form = LongForm; slots = long_slots }
    ∷ []

-- What a field may hold. creg 7 names no register, and creg 0 with z is CALLP's; NOP counts to 9; the modes 2, 3, 6 and
-- 7 are reserved.
abbrev pub is_part : Part → ℕ → Bool
is_part Condition value = nat_lt value 14 && not (nat_eq value 1)
is_part Count value = nat_lt value 9
is_part Mode value = nat_lt value 2 || (nat_le 4 value && nat_lt value 6) || (nat_le 8 value && nat_lt value 16)
is_part _ value = true

-- A bit of the word.
abbrev pub bit_of : Bool → ℕ
bit_of false = 0
bit_of true = 1

-- s and y: side A is 0, side B is 1.
abbrev pub side_bit : Side → ℕ
side_bit A = 0
side_bit B = 1

-- creg (SPRU732, "Conditional Operations").
abbrev pub creg_of : CondReg → ℕ
creg_of B0 = 1
creg_of B1 = 2
creg_of B2 = 3
creg_of A1 = 4
creg_of A2 = 5
creg_of A0 = 6

-- creg with z, in four bits.
abbrev pub condition_bits : Cond → ℕ
condition_bits Always = 0
condition_bits (If register on_zero) = 2 * creg_of register + bit_of on_zero

-- The opcode of a load or a store.
abbrev pub access_bits : Access → ℕ
access_bits Ldhu = 0
access_bits Ldbu = 1
access_bits Ldb = 2
access_bits Stb = 3
access_bits Ldh = 4
access_bits Sth = 5
access_bits Ldw = 6
access_bits Stw = 7

abbrev pub first_bits : First → ℕ
first_bits (Register number) = number
first_bits (Constant bits) = bits

abbrev pub is_constant : First → Bool
is_constant (Register number) = false
is_constant (Constant bits) = true

-- NOP n has n - 1 in its word; no count stands for 0.
abbrev pub count_bits : ℕ → ℕ
count_bits cycles = if nat_eq cycles 0 then 15 else cycles - 1

abbrev pub form_of : Op → Form
form_of (Two unit arith side cross first second dst) = TwoForm unit arith (is_constant first)
form_of (Move kind side constant dst) = MoveForm kind
form_of (Branch side field) = BranchForm
form_of (Callp side field) = CallpForm
form_of (BranchNop side field wait) = BranchNopForm
form_of (BranchReg cross source) = BranchRegForm
form_of (BranchRegNop cross source wait) = BranchRegNopForm
form_of (AddKpc field wait dst) = AddKpcForm
form_of (Nop cycles) = NopForm
form_of (Short access unit_side value_side mode offset base register) = ShortForm
form_of (Long access value_side base15 offset register) = LongForm

-- The number that an operation puts in a field, and 0 in a field that it does not have.
abbrev pub op_part : Op → Part → ℕ
op_part (Two unit arith side cross first second dst) Dst = dst
op_part (Two unit arith side cross first second dst) Src2 = second
op_part (Two unit arith side cross first second dst) Src1 = first_bits first
op_part (Two unit arith side cross first second dst) Crossed = bit_of cross
op_part (Two unit arith side cross first second dst) Sided = side_bit side
op_part (Move kind side constant dst) Dst = dst
op_part (Move kind side constant dst) Constant16 = constant
op_part (Move kind side constant dst) Sided = side_bit side
op_part (Branch side field) Field21 = field
op_part (Branch side field) Sided = side_bit side
op_part (Callp side field) Field21 = field
op_part (Callp side field) Sided = side_bit side
op_part (BranchNop side field wait) Field12 = field
op_part (BranchNop side field wait) Waits = wait
op_part (BranchNop side field wait) Sided = side_bit side
op_part (BranchReg cross source) Src2 = source
op_part (BranchReg cross source) Crossed = bit_of cross
op_part (BranchRegNop cross source wait) Src2 = source
op_part (BranchRegNop cross source wait) Waits = wait
op_part (BranchRegNop cross source wait) Crossed = bit_of cross
op_part (AddKpc field wait dst) Dst = dst
op_part (AddKpc field wait dst) Field7 = field
op_part (AddKpc field wait dst) Waits = wait
op_part (Nop cycles) Count = count_bits cycles
op_part (Short access unit_side value_side mode offset base register) Valued = register
op_part (Short access unit_side value_side mode offset base register) Based = base
op_part (Short access unit_side value_side mode offset base register) Offset5 = offset
op_part (Short access unit_side value_side mode offset base register) Mode = mode
op_part (Short access unit_side value_side mode offset base register) UnitSided = side_bit unit_side
op_part (Short access unit_side value_side mode offset base register) Opcode = access_bits access
op_part (Short access unit_side value_side mode offset base register) Sided = side_bit value_side
op_part (Long access value_side base15 offset register) Valued = register
op_part (Long access value_side base15 offset register) Offset15 = offset
op_part (Long access value_side base15 offset register) Base15 = bit_of base15
op_part (Long access value_side base15 offset register) Opcode = access_bits access
op_part (Long access value_side base15 offset register) Sided = side_bit value_side
op_part _ _ = 0

-- The number that an instruction puts in a field.
abbrev pub part_of : Instr → Part → ℕ
part_of i Condition = condition_bits i.condition
part_of i Chained = bit_of i.chained
part_of i part = op_part i.op part

-- The fixed bits are those of the word, and the word's fields hold these parts, which they may.
abbrev pub AreBits : List Slot → (Part → ℕ) → ℕ → Type 0
AreBits [] parts word = Unit {0}
AreBits (Fixed count value ∷ slots) parts word =
    (bits_of word (width slots) count ≡ value) × AreBits slots parts word
AreBits (Named count part ∷ slots) parts word =
    ((bits_of word (width slots) count ≡ parts part) × IsTrue (is_part part (parts part))) × AreBits slots parts word

abbrev pub IsRow : List Row → Row → Type 0
IsRow [] row = ⊥
IsRow (listed ∷ rows) row = (row ≡ listed) ⊎ IsRow rows row

-- The word spells the instruction: by one row of the table, of the instruction's form.
pub record Spells (i : Instr) (word : ℕ) : Type 0 where
  pub fits : word < 2 ^ 32
  pub row : Row
  pub listed : IsRow table row
  pub form : form_of i.op ≡ row.form
  pub bits : AreBits row.slots (part_of i) word

-- Some word spells the instruction.
abbrev pub IsValid : Instr → Type 0
IsValid i = (word : ℕ) × Spells i word
