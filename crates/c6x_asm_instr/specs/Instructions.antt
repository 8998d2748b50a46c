-- The instruction of a line, by its mnemonic's row.
use Rattle.std.specs.Prelude.{ℕ, ◌==◌, Bool, true, false, not, ◌&&◌, ◌||◌, if◌then◌else◌, List, [], ◌∷◌, length, Option, Some, None, Result, Ok, Err}
use Rattle.std.specs.Option.{is_some}
use Rattle.c6x_base.specs.declared.side.Side.{Side}
use Rattle.c6x_base.specs.declared.side.Side.TheVariants.{A, B}
use Rattle.c6x_encoding.specs.declared.access.Access.{Access}
use Rattle.c6x_encoding.specs.declared.access.Access.TheVariants.{Stb, Sth, Stw}
use Rattle.c6x_encoding.specs.declared.arith.Arith.{Arith}
use Rattle.c6x_encoding.specs.declared.arith.Arith.TheVariants.{Shl, Shr, Shru}
use Rattle.c6x_encoding.specs.declared.cond.Cond.{Cond}
use Rattle.c6x_encoding.specs.declared.cond.Cond.TheVariants.{Always, If}
use Rattle.c6x_encoding.specs.declared.first.First.{First}
use Rattle.c6x_encoding.specs.declared.first.First.TheVariants.{Register as FirstRegister, Constant as FirstConstant}
use Rattle.c6x_encoding.specs.declared.move_kind.MoveKind.{MoveKind}
use Rattle.c6x_encoding.specs.declared.move_kind.MoveKind.TheVariants.{Mvk, Mvkh, Addk}
use Rattle.c6x_encoding.specs.declared.op.Op.{Op}
use Rattle.c6x_encoding.specs.declared.op.Op.TheVariants.{Two as TwoOp, Move as MoveOp, Branch as BranchOp, Callp as CallpOp, BranchNop as BranchNopOp, BranchReg as BranchRegOp, BranchRegNop as BranchRegNopOp, AddKpc as AddKpcOp, Nop as NopOp, Short as ShortOp, Long as LongOp}
use Rattle.c6x_encoding.specs.declared.unit_kind.UnitKind.{UnitKind}
use Rattle.c6x_encoding.specs.declared.unit_kind.UnitKind.TheVariants.{S, D}
use Rattle.c6x_encoding.specs.Values.{size_of}
use Rattle.c6x_encoding.specs.Encoded.{two_code}
use Rattle.c6x_reloc.specs.declared.reloc_kind.RelocKind.TheVariants.{PCR_S21, PCR_S12, PCR_S7, ABS_S16, ABS_H16}
use Rattle.c6x_asm_lines.specs.declared.statement_head.StatementHead.{StatementHead}
use Rattle.c6x_asm_lines.specs.declared.operand.Operand.{Operand}
use Rattle.c6x_asm_lines.specs.declared.operand.Operand.TheVariants.{Value as ValueOperand}
use Rattle.c6x_asm_lines.specs.declared.primary.Primary.TheVariants.{Register as PrimaryRegister, Number as PrimaryNumber}
use Rattle.c6x_asm_lines.specs.declared.value.Value.TheVariants.{Primary as PrimaryValue}
use Rattle.c6x_asm_lines.specs.declared.word.Word.{Word}
use Rattle.c6x_asm_lines.specs.declared.relocatable.Field.{Field}
use Rattle.c6x_asm_lines.specs.declared.relocatable.RelocatableOp.{RelocatableOp}
use Rattle.c6x_asm_lines.specs.declared.mnemonic.Mnemonic.{Mnemonic}
use Rattle.c6x_asm_lines.specs.declared.mnemonic.Mnemonic.TheVariants.{Two, Move, B as BranchTo, Bnop, Callp, AddKpc, Nop, Memory}
use Rattle.c6x_asm_lines.specs.declared.data_path.DataPath.{DataPath}
use Rattle.c6x_asm_lines.specs.declared.data_path.DataPath.TheVariants.{Own, Cross, Value as ValuePath}
use Rattle.c6x_asm_lines.specs.declared.place.Place.{Place}
use Rattle.c6x_asm_lines.specs.declared.place.Place.TheVariants.{Short, Long}
use Rattle.c6x_asm_lines.specs.declared.range.Range.{Range}
use Rattle.c6x_asm_lines.specs.declared.rule.AsmRule.{AsmRule}
use Rattle.c6x_asm_lines.specs.declared.rule.AsmRule.TheVariants.{Syntax, UnknownWord, Operand as BadOperand}
use Rattle.c6x_asm_lines.specs.declared.unit.Unit.{Unit}
use Rattle.c6x_asm_lines.specs.Addresses.{place_of}
use Rattle.c6x_asm_lines.specs.OperandNames.{mnemonic_of, unit_of}
use Rattle.c6x_asm_lines.specs.Numbers.{number_in, range_of}
use Rattle.c6x_asm_lines.specs.OperandValues.{same_side, register_on, register_operand, constant_operand, field_operand}
use Rattle.c6x_asm_lines.specs.Bytes.{bytes_at}
use Rattle.c6x_asm_lines.specs.Rules.{both}
use Rattle.c6x_spec.specs.Results.{◌>>=◌}

abbrev pub other_side : Side → Side
other_side A = B
other_side B = A

abbrev pub is_cross : DataPath → Bool
is_cross Cross = true
is_cross _ = false

abbrev pub is_own : DataPath → Bool
is_own Own = true
is_own _ = false

-- the unit has this operation, with a register or a constant as the first operand
abbrev pub has_form : UnitKind → Arith → Bool → Bool
has_form unit arith constant = is_some (two_code unit arith constant)

abbrev pub is_shift : Arith → Bool
is_shift Shl = true
is_shift Shr = true
is_shift Shru = true
is_shift _ = false

abbrev pub is_d : UnitKind → Bool
is_d D = true
is_d _ = false

-- .D operations and shifts are written with the second operand first
abbrev pub is_swapped : UnitKind → Arith → Bool
is_swapped unit arith = is_d unit || is_shift arith

-- a constant is signed but for .D and shifts
abbrev pub first_range : Bool → Range
first_range true = range_of 0 0 31 32
first_range false = range_of 16 0 15 32

unfoldable pub first_of : UnitKind → Arith → Side → Operand → Result First AsmRule
first_of unit arith side (ValueOperand (PrimaryValue (PrimaryRegister register))) = register_on side register >>= λ n. Ok (FirstRegister n)
first_of unit arith side (ValueOperand (PrimaryValue (PrimaryNumber n))) =
    if has_form unit arith true
    then (number_in (first_range (is_swapped unit arith)) n >>= λ bits. Ok (FirstConstant bits))
    else Err BadOperand
first_of unit arith side _ = Err BadOperand

abbrev pub second_side : Unit → Side
second_side unit = if is_cross unit.path then other_side unit.side else unit.side

abbrev pub plain_made : Op → RelocatableOp
plain_made op = record { op = op; relocation = None }

unfoldable pub two_with : Arith → Unit → Operand → Operand → Operand → Result RelocatableOp AsmRule
two_with arith unit first second dst =
    both (first_of unit.kind arith unit.side first) (both (register_operand (second_side unit) second) (register_operand unit.side dst))
    >>= λ p. Ok (plain_made (TwoOp unit.kind arith unit.side (is_cross unit.path) p.0 p.1.0 p.1.1))

abbrev pub two_of : Arith → Unit → List Operand → Result RelocatableOp AsmRule
two_of arith unit (x ∷ y ∷ z ∷ []) = if is_swapped unit.kind arith then two_with arith unit y x z else two_with arith unit x y z
two_of arith unit _ = Err Syntax

abbrev pub constant_field : Range → Operand → Result Field AsmRule
constant_field range operand = constant_operand range operand >>= λ bits. Ok (record { bits = bits; relocation = None })

-- the constant of MVK, MVKH or ADDK, of which the last takes no expression
unfoldable pub move_field : List ℕ → MoveKind → Operand → Result Field AsmRule
move_field text Mvk operand = field_operand text ABS_S16 (range_of 32768 0 32767 65536) operand
move_field text Mvkh operand = field_operand text ABS_H16 (range_of 0 0 65535 65536) operand
move_field text Addk operand = constant_field (range_of 32768 0 32767 65536) operand

abbrev pub move_of : List ℕ → MoveKind → Unit → List Operand → Result RelocatableOp AsmRule
move_of text kind unit (x ∷ dst ∷ []) =
    both (move_field text kind x) (register_operand unit.side dst)
    >>= λ p. Ok (record { op = MoveOp kind unit.side p.0.bits p.1; relocation = p.0.relocation })
move_of text kind unit _ = Err Syntax

abbrev pub is_register : Operand → Bool
is_register (ValueOperand (PrimaryValue (PrimaryRegister register))) = true
is_register _ = false

-- a target that is a register is read by .S2
abbrev pub target_register : Unit → Operand → Result ℕ AsmRule
target_register unit target =
    register_operand (if is_cross unit.path then A else B) target
    >>= λ n. if same_side unit.side B then Ok n else Err BadOperand

abbrev pub takes_register : Unit → Operand → Bool
takes_register unit target = is_register target || is_cross unit.path

-- the signed field of a branch in 21, 12 or 7 bits
abbrev pub far_range : Range
far_range = range_of 1048576 0 1048575 2097152

abbrev pub near_range : Range
near_range = range_of 2048 0 2047 4096

abbrev pub close_range : Range
close_range = range_of 64 0 63 128

-- the cycles that BNOP and ADDKPC wait
abbrev pub wait_range : Range
wait_range = range_of 0 0 7 8

abbrev pub branch_of : List ℕ → Unit → List Operand → Result RelocatableOp AsmRule
branch_of text unit (target ∷ []) =
    if takes_register unit target
    then (target_register unit target >>= λ n. Ok (plain_made (BranchRegOp (is_cross unit.path) n)))
    else (field_operand text PCR_S21 far_range target >>= λ f. Ok (record { op = BranchOp unit.side f.bits; relocation = f.relocation }))
branch_of text unit _ = Err Syntax

abbrev pub branch_nop_of : List ℕ → Unit → List Operand → Result RelocatableOp AsmRule
branch_nop_of text unit (target ∷ wait ∷ []) =
    if takes_register unit target
    then (both (target_register unit target) (constant_operand wait_range wait) >>= λ p. Ok (plain_made (BranchRegNopOp (is_cross unit.path) p.0 p.1)))
    else (both (field_operand text PCR_S12 near_range target) (constant_operand wait_range wait)
    >>= λ p. Ok (record { op = BranchNopOp unit.side p.0.bits p.1; relocation = p.0.relocation }))
branch_nop_of text unit _ = Err Syntax

-- A3 or B3, which takes the return address
abbrev pub link_register : Side → Operand → Result ℕ AsmRule
link_register side operand = register_operand side operand >>= λ n. if n == 3 then Ok n else Err BadOperand

abbrev pub callp_of : List ℕ → Unit → List Operand → Result RelocatableOp AsmRule
callp_of text unit (target ∷ link ∷ []) =
    both (field_operand text PCR_S21 far_range target) (link_register unit.side link)
    >>= λ p. Ok (record { op = CallpOp unit.side p.0.bits; relocation = p.0.relocation })
callp_of text unit _ = Err Syntax

abbrev pub add_kpc_of : List ℕ → List Operand → Result RelocatableOp AsmRule
add_kpc_of text (target ∷ dst ∷ wait ∷ []) =
    both (field_operand text PCR_S7 close_range target) (both (register_operand B dst) (constant_operand wait_range wait))
    >>= λ p. Ok (record { op = AddKpcOp p.0.bits p.1.1 p.1.0; relocation = p.0.relocation })
add_kpc_of text _ = Err Syntax

abbrev pub nop_of : List Operand → Result RelocatableOp AsmRule
nop_of [] = Ok (plain_made (NopOp 1))
nop_of (n ∷ []) = constant_operand (range_of 0 1 9 16) n >>= λ cycles. Ok (plain_made (NopOp cycles))
nop_of _ = Err Syntax

abbrev pub is_store : Access → Bool
is_store Stb = true
is_store Sth = true
is_store Stw = true
is_store _ = false

abbrev pub memory_made : Access → Side → Side → ℕ → Place → RelocatableOp
memory_made access unit_side value_side register (Short mode offset base) = plain_made (ShortOp access unit_side value_side mode offset base register)
memory_made access unit_side value_side register (Long base15 offset relocation) = record { op = LongOp access value_side base15 offset register; relocation = relocation }

unfoldable pub memory_with : List ℕ → Access → Side → Side → Operand → Operand → Result RelocatableOp AsmRule
memory_with text access unit_side value_side address value =
    both (place_of text (size_of access) unit_side address) (register_operand value_side value)
    >>= λ p. Ok (memory_made access unit_side value_side p.1 p.0)

abbrev pub memory_on : List ℕ → Access → Side → DataPath → List Operand → Result RelocatableOp AsmRule
memory_on text access side (ValuePath value_side) (x ∷ y ∷ []) =
    if is_store access then memory_with text access side value_side y x else memory_with text access side value_side x y
memory_on text access side _ _ = Err Syntax

-- how many operands a mnemonic has
abbrev pub has_count : Mnemonic → ℕ → Bool
has_count (Two arith) n = n == 3
has_count (Move kind) n = n == 2
has_count BranchTo n = n == 1
has_count Bnop n = n == 2
has_count Callp n = n == 2
has_count AddKpc n = n == 3
has_count Nop n = n == 0 || n == 1
has_count (Memory access) n = n == 2

abbrev pub may_be_conditional : Mnemonic → Bool
may_be_conditional Callp = false
may_be_conditional Nop = false
may_be_conditional _ = true

abbrev pub is_s : UnitKind → Bool
is_s S = true
is_s _ = false

abbrev pub names_value : DataPath → Bool
names_value (ValuePath side) = true
names_value _ = false

-- the units that a mnemonic has
abbrev pub has_unit : Mnemonic → Unit → Bool
has_unit (Two arith) unit = has_form unit.kind arith false && not (names_value unit.path)
has_unit (Move kind) unit = is_s unit.kind && is_own unit.path
has_unit BranchTo unit = is_s unit.kind && (is_own unit.path || (same_side unit.side B && is_cross unit.path))
has_unit Bnop unit = is_s unit.kind && (is_own unit.path || (same_side unit.side B && is_cross unit.path))
has_unit Callp unit = is_s unit.kind && is_own unit.path
has_unit AddKpc unit = is_s unit.kind && (same_side unit.side B && is_own unit.path)
has_unit Nop unit = false
has_unit (Memory access) unit = is_d unit.kind && names_value unit.path

unfoldable pub made_by : List ℕ → Mnemonic → Unit → List Operand → Result RelocatableOp AsmRule
made_by text (Two arith) unit operands = two_of arith unit operands
made_by text (Move kind) unit operands = move_of text kind unit operands
made_by text BranchTo unit operands = branch_of text unit operands
made_by text Bnop unit operands = branch_nop_of text unit operands
made_by text Callp unit operands = callp_of text unit operands
made_by text AddKpc unit operands = add_kpc_of text operands
made_by text Nop unit operands = nop_of operands
made_by text (Memory access) unit operands = memory_on text access unit.side unit.path operands

abbrev pub with_unit : List ℕ → Mnemonic → Option Unit → List Operand → Result RelocatableOp AsmRule
with_unit text mnemonic None operands = Err UnknownWord
with_unit text mnemonic (Some unit) operands = if has_unit mnemonic unit then made_by text mnemonic unit operands else Err Syntax

-- the unit that a word names, if there is one
abbrev pub unit_named : List ℕ → Option Word → Option Unit
unit_named text None = None
unit_named text (Some word) = unit_of (bytes_at text word.at word.len)

abbrev pub is_conditional : Cond → Bool
is_conditional Always = false
is_conditional (If register zero) = true

abbrev pub is_nop : Mnemonic → Bool
is_nop Nop = true
is_nop _ = false

abbrev pub with_mnemonic : List ℕ → StatementHead → Option Mnemonic → List Operand → Result RelocatableOp AsmRule
with_mnemonic text head None operands = Err UnknownWord
with_mnemonic text head (Some mnemonic) operands =
    if not (has_count mnemonic (length operands)) || (is_conditional head.condition && not (may_be_conditional mnemonic))
    then Err Syntax
    else if is_nop mnemonic
    then nop_of operands
    else with_unit text mnemonic (unit_named text head.unit) operands

-- the instruction that a line's words and operands name, or the lowest rule that they break
unfoldable pub instruction_of : List ℕ → StatementHead → List Operand → Result RelocatableOp AsmRule
instruction_of text head operands = with_mnemonic text head (mnemonic_of (bytes_at text head.word.at head.word.len)) operands
