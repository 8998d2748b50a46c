-- The line of an instruction: its condition, mnemonic, unit and operands (SPRU732, "Instruction Descriptions"), in the
-- words, the units and the shapes of operands that the assembler reads.
use Rattle.std.specs.Prelude.{ℕ, ◌-◌, ◌*◌, ◌%◌, nat_lt, nat_le, ◌==◌, Bool, true, false, if◌then◌else◌, List, [], ◌∷◌, ◌++◌, Option, Some, None, codes, decimal}
use Rattle.c6x_base.specs.declared.side.Side.{Side}
use Rattle.c6x_base.specs.declared.side.Side.TheVariants.{A, B}
use Rattle.c6x_encoding.specs.declared.access.Access.{Access}
use Rattle.c6x_encoding.specs.declared.arith.Arith.{Arith}
use Rattle.c6x_encoding.specs.declared.cond.Cond.{Cond}
use Rattle.c6x_encoding.specs.declared.cond.Cond.TheVariants.{Always, If}
use Rattle.c6x_encoding.specs.declared.cond_reg.CondReg.{CondReg}
use Rattle.c6x_encoding.specs.declared.cond_reg.CondReg.TheVariants.{B0, B1, B2, A1, A2, A0}
use Rattle.c6x_encoding.specs.declared.first.First.{First}
use Rattle.c6x_encoding.specs.declared.first.First.TheVariants.{Register as FirstRegister, Constant as FirstConstant}
use Rattle.c6x_encoding.specs.declared.instr.Instr.{Instr}
use Rattle.c6x_encoding.specs.declared.move_kind.MoveKind.{MoveKind}
use Rattle.c6x_encoding.specs.declared.move_kind.MoveKind.TheVariants.{Mvkh}
use Rattle.c6x_encoding.specs.declared.op.Op.{Op}
use Rattle.c6x_encoding.specs.declared.op.Op.TheVariants.{Two as TwoOp, Move as MoveOp, Branch as BranchOp, Callp as CallpOp, BranchNop as BranchNopOp, BranchReg as BranchRegOp, BranchRegNop as BranchRegNopOp, AddKpc as AddKpcOp, Nop as NopOp, Short as ShortOp, Long as LongOp}
use Rattle.c6x_encoding.specs.declared.unit_kind.UnitKind.{UnitKind}
use Rattle.c6x_encoding.specs.declared.unit_kind.UnitKind.TheVariants.{L, S, D, M}
use Rattle.c6x_encoding.specs.Values.{size_of, takes_register}
use Rattle.c6x_asm_lines.specs.declared.mode.Mode.{Mode}
use Rattle.c6x_asm_lines.specs.declared.mode.Mode.TheVariants.{Negative, Positive, PreDecrement, PreIncrement, PostDecrement, PostIncrement}
use Rattle.c6x_asm_lines.specs.declared.number.Number.{Number}
use Rattle.c6x_asm_lines.specs.declared.offset.Offset.{Offset}
use Rattle.c6x_asm_lines.specs.declared.offset.Offset.TheVariants.{Missing, Bracket, Parenthesis}
use Rattle.c6x_asm_lines.specs.declared.operand.Operand.{Operand}
use Rattle.c6x_asm_lines.specs.declared.operand.Operand.TheVariants.{Address as AddressOperand, Value as ValueOperand}
use Rattle.c6x_asm_lines.specs.declared.primary.Primary.TheVariants.{Register as PrimaryRegister, Number as PrimaryNumber}
use Rattle.c6x_asm_lines.specs.declared.register.Register.{Register}
use Rattle.c6x_asm_lines.specs.declared.value.Value.{Value}
use Rattle.c6x_asm_lines.specs.declared.value.Value.TheVariants.{Primary as PrimaryValue}
use Rattle.c6x_asm_lines.specs.declared.data_path.DataPath.{DataPath}
use Rattle.c6x_asm_lines.specs.declared.data_path.DataPath.TheVariants.{Own, Cross, Value as ValuePath}
use Rattle.c6x_asm_lines.specs.declared.mnemonic.Mnemonic.{Mnemonic}
use Rattle.c6x_asm_lines.specs.declared.mnemonic.Mnemonic.TheVariants.{Two, Move, B as BranchTo, Bnop, Callp, AddKpc, Nop, Memory}
use Rattle.c6x_asm_lines.specs.declared.unit.Unit.{Unit}
use Rattle.c6x_asm_lines.specs.OperandNames.{mnemonic_name}
use Rattle.c6x_asm_instr.specs.Instructions.{is_store, is_swapped, other_side}
use Rattle.c6x_dis.specs.Atoms.{Atom, word, number, punctuator, space, bytes_of}

abbrev pub side_letter : Side → ℕ
side_letter A = 65
side_letter B = 66

abbrev pub side_digit : Side → ℕ
side_digit A = 49
side_digit B = 50

abbrev pub register_word : Register → List ℕ
register_word r = side_letter r.side ∷ decimal r.number

-- a condition's register
abbrev pub tested_word : CondReg → List ℕ
tested_word B0 = codes "B0"
tested_word B1 = codes "B1"
tested_word B2 = codes "B2"
tested_word A1 = codes "A1"
tested_word A2 = codes "A2"
tested_word A0 = codes "A0"

-- `[R] ` where R is not zero, `[!R] ` where it is zero
abbrev pub condition_atoms : Cond → List Atom
condition_atoms Always = []
condition_atoms (If register false) = punctuator 91 ∷ word (tested_word register) ∷ punctuator 93 ∷ space ∷ []
condition_atoms (If register true) = punctuator 91 ∷ punctuator 33 ∷ word (tested_word register) ∷ punctuator 93 ∷ space ∷ []

abbrev pub unit_letter : UnitKind → ℕ
unit_letter L = 76
unit_letter S = 83
unit_letter D = 68
unit_letter M = 77

abbrev pub path_bytes : DataPath → List ℕ
path_bytes Own = []
path_bytes Cross = 88 ∷ []
path_bytes (ValuePath side) = 84 ∷ side_digit side ∷ []

-- the word that names a unit
abbrev pub unit_word : Unit → List ℕ
unit_word unit = 46 ∷ unit_letter unit.kind ∷ side_digit unit.side ∷ path_bytes unit.path

abbrev pub size_bytes : Option ℕ → List ℕ
size_bytes None = []
size_bytes (Some size) = decimal size

abbrev pub number_atoms : Number → List Atom
number_atoms n = if n.negative then punctuator 45 ∷ number (size_bytes n.size) ∷ [] else number (size_bytes n.size) ∷ []

-- a register or a number; no instruction's line has another value
abbrev pub value_atoms : Value → List Atom
value_atoms (PrimaryValue (PrimaryRegister r)) = word (register_word r) ∷ []
value_atoms (PrimaryValue (PrimaryNumber n)) = number_atoms n
value_atoms _ = []

-- the signs before and behind the base (SPRU732, "Addressing Modes")
abbrev pub signs_before : Mode → List Atom
signs_before Negative = punctuator 45 ∷ []
signs_before Positive = punctuator 43 ∷ []
signs_before PreDecrement = punctuator 45 ∷ punctuator 45 ∷ []
signs_before PreIncrement = punctuator 43 ∷ punctuator 43 ∷ []
signs_before _ = []

abbrev pub signs_behind : Mode → List Atom
signs_behind PostDecrement = punctuator 45 ∷ punctuator 45 ∷ []
signs_behind PostIncrement = punctuator 43 ∷ punctuator 43 ∷ []
signs_behind _ = []

abbrev pub base_atoms : Option Register → List Atom
base_atoms None = []
base_atoms (Some r) = word (register_word r) ∷ []

abbrev pub offset_atoms : Offset → List Atom
offset_atoms Missing = []
offset_atoms (Bracket v) = punctuator 91 ∷ value_atoms v ++ punctuator 93 ∷ []
offset_atoms (Parenthesis v) = punctuator 40 ∷ value_atoms v ++ punctuator 41 ∷ []

unfoldable pub operand_atoms : Operand → List Atom
operand_atoms (AddressOperand a) =
    punctuator 42 ∷ signs_before a.mode ++ base_atoms a.base ++ signs_behind a.mode ++ offset_atoms a.offset
operand_atoms (ValueOperand v) = value_atoms v
operand_atoms _ = []

abbrev pub more_atoms : List Operand → List Atom
more_atoms [] = []
more_atoms (o ∷ operands) = punctuator 44 ∷ operand_atoms o ++ more_atoms operands

-- operands with commas between them
abbrev pub operands_atoms : List Operand → List Atom
operands_atoms [] = []
operands_atoms (o ∷ operands) = operand_atoms o ++ more_atoms operands

abbrev pub register_at : Side → ℕ → Operand
register_at side n = ValueOperand (PrimaryValue (PrimaryRegister (record { side = side; number = n })))

abbrev pub natural : ℕ → Number
natural n = record { negative = false; size = Some n }

-- the number that these bits are in two's complement, where the least one is `-half`
abbrev pub signed : ℕ → ℕ → Number
signed half bits = if nat_lt bits half then natural bits else (record { negative = true; size = Some (2 * half - bits) })

abbrev pub constant : Number → Operand
constant n = ValueOperand (PrimaryValue (PrimaryNumber n))

abbrev pub first_operand : UnitKind → Arith → Side → First → Operand
first_operand unit arith side (FirstRegister n) = register_at side n
first_operand unit arith side (FirstConstant bits) = constant (if is_swapped unit arith then natural bits else signed 16 bits)

abbrev pub second_side : Side → Bool → Side
second_side side cross = if cross then other_side side else side

abbrev pub move_number : MoveKind → ℕ → Number
move_number Mvkh bits = natural bits
move_number _ bits = signed 32768 bits

-- the mode whose number this is, or this less four where the offset is a register (SPRU732, "Addressing Modes")
abbrev pub mode_of_number : ℕ → Mode
mode_of_number n =
    if nat_le 8 n
    then (if n % 4 == 0 then PreDecrement else if n % 4 == 1 then PreIncrement else if n % 4 == 2 then PostDecrement else PostIncrement)
    else if n % 2 == 0 then Negative else Positive

abbrev pub short_offset : Side → ℕ → ℕ → Value
short_offset side mode offset =
    PrimaryValue (if takes_register mode then PrimaryRegister (record { side = side; number = offset }) else PrimaryNumber (natural offset))

abbrev pub short_address : Side → ℕ → ℕ → ℕ → Operand
short_address side mode offset base = AddressOperand (record {
  base = Some (record { side = side; number = base });
  mode = mode_of_number mode;
  offset = Bracket (short_offset side mode offset);
})

-- the offset in bytes from B14 or B15
abbrev pub long_address : Access → Bool → ℕ → Operand
long_address access base15 offset = AddressOperand (record {
  base = Some (record { side = B; number = if base15 then 15 else 14 });
  mode = Positive;
  offset = Parenthesis (PrimaryValue (PrimaryNumber (natural (size_of access * offset))));
})

-- a store's register stands first
abbrev pub memory_operands : Access → Operand → Operand → List Operand
memory_operands access address register = if is_store access then register ∷ address ∷ [] else address ∷ register ∷ []

abbrev pub mnemonic_for : Op → Mnemonic
mnemonic_for (TwoOp unit arith side cross first second dst) = Two arith
mnemonic_for (MoveOp kind side constant dst) = Move kind
mnemonic_for (BranchOp side field) = BranchTo
mnemonic_for (CallpOp side field) = Callp
mnemonic_for (BranchNopOp side field wait) = Bnop
mnemonic_for (BranchRegOp cross source) = BranchTo
mnemonic_for (BranchRegNopOp cross source wait) = Bnop
mnemonic_for (AddKpcOp field wait dst) = AddKpc
mnemonic_for (NopOp cycles) = Nop
mnemonic_for (ShortOp access unit_side value_side mode offset base register) = Memory access
mnemonic_for (LongOp access value_side base15 offset register) = Memory access

abbrev pub path_for : Bool → DataPath
path_for cross = if cross then Cross else Own

abbrev pub unit_with : UnitKind → Side → DataPath → Option Unit
unit_with kind side path = Some (record { kind = kind; side = side; path = path })

-- the unit, which NOP has none of; the long form is .D2's
abbrev pub unit_for : Op → Option Unit
unit_for (TwoOp unit arith side cross first second dst) = unit_with unit side (path_for cross)
unit_for (MoveOp kind side constant dst) = unit_with S side Own
unit_for (BranchOp side field) = unit_with S side Own
unit_for (CallpOp side field) = unit_with S side Own
unit_for (BranchNopOp side field wait) = unit_with S side Own
unit_for (BranchRegOp cross source) = unit_with S B (path_for cross)
unit_for (BranchRegNopOp cross source wait) = unit_with S B (path_for cross)
unit_for (AddKpcOp field wait dst) = unit_with S B Own
unit_for (NopOp cycles) = None
unit_for (ShortOp access unit_side value_side mode offset base register) = unit_with D unit_side (ValuePath value_side)
unit_for (LongOp access value_side base15 offset register) = unit_with D B (ValuePath value_side)

-- the operands of a branch, CALLP or ADDKPC
unfoldable pub branch_operands : Op → List Operand
branch_operands (BranchOp side field) = constant (signed 1048576 field) ∷ []
branch_operands (CallpOp side field) = constant (signed 1048576 field) ∷ register_at side 3 ∷ []
branch_operands (BranchNopOp side field wait) = constant (signed 2048 field) ∷ constant (natural wait) ∷ []
branch_operands (BranchRegOp cross source) = register_at (second_side B cross) source ∷ []
branch_operands (BranchRegNopOp cross source wait) = register_at (second_side B cross) source ∷ constant (natural wait) ∷ []
branch_operands (AddKpcOp field wait dst) = constant (signed 64 field) ∷ register_at B dst ∷ constant (natural wait) ∷ []
branch_operands _ = []

-- the operands of a load or a store
unfoldable pub access_operands : Op → List Operand
access_operands (ShortOp access unit_side value_side mode offset base register) =
    memory_operands access (short_address unit_side mode offset base) (register_at value_side register)
access_operands (LongOp access value_side base15 offset register) =
    memory_operands access (long_address access base15 offset) (register_at value_side register)
access_operands _ = []

-- the operands in the order in which the assembler reads them
unfoldable pub operands_for : Op → List Operand
operands_for (TwoOp unit arith side cross first second dst) =
    if is_swapped unit arith
    then register_at (second_side side cross) second ∷ first_operand unit arith side first ∷ register_at side dst ∷ []
    else first_operand unit arith side first ∷ register_at (second_side side cross) second ∷ register_at side dst ∷ []
operands_for (MoveOp kind side bits dst) = constant (move_number kind bits) ∷ register_at side dst ∷ []
operands_for (NopOp cycles) = constant (natural cycles) ∷ []
operands_for (ShortOp access unit_side value_side mode offset base register) = access_operands (ShortOp access unit_side value_side mode offset base register)
operands_for (LongOp access value_side base15 offset register) = access_operands (LongOp access value_side base15 offset register)
operands_for op = branch_operands op

abbrev pub unit_atoms : Option Unit → List Atom
unit_atoms None = []
unit_atoms (Some unit) = word (unit_word unit) ∷ space ∷ []

-- the line of an instruction, as what it is written of
unfoldable pub shown_atoms : Instr → List Atom
shown_atoms i =
    condition_atoms i.condition
    ++ (word (mnemonic_name (mnemonic_for i.op)) ∷ space ∷ unit_atoms (unit_for i.op) ++ operands_atoms (operands_for i.op))

-- its text
abbrev pub shown : Instr → List ℕ
shown i = bytes_of (shown_atoms i)
