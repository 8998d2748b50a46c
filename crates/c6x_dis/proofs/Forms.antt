-- The operands of each form are those that a shown line has.
use Rattle.std.proofs.Common.{ℕ, ◌-◌, ◌*◌, ◌^◌, ◌<◌, ◌≤◌, Bool, true, false, if◌then◌else◌, List, [], ◌∷◌, Some, refl, arith, ltb}
use Rattle.c6x_base.specs.declared.side.Side.{Side}
use Rattle.c6x_encoding.specs.Bounds.{FitsOp}
use Rattle.c6x_encoding.specs.Spelling.{first_bits}
use Rattle.c6x_encoding.specs.Values.{size_of, takes_register}
use Rattle.c6x_encoding.specs.declared.access.Access.{Access}
use Rattle.c6x_encoding.specs.declared.access.Access.TheVariants.{Ldhu, Ldbu, Ldb, Stb, Ldh, Sth, Ldw, Stw}
use Rattle.c6x_encoding.specs.declared.arith.Arith.{Arith}
use Rattle.c6x_encoding.specs.declared.first.First.{First}
use Rattle.c6x_encoding.specs.declared.first.First.TheVariants.{Register as FirstRegister, Constant as FirstConstant}
use Rattle.c6x_encoding.specs.declared.move_kind.MoveKind.{MoveKind}
use Rattle.c6x_encoding.specs.declared.move_kind.MoveKind.TheVariants.{Mvk, Mvkh, Addk}
use Rattle.c6x_encoding.specs.declared.op.Op.{Op}
use Rattle.c6x_encoding.specs.declared.op.Op.TheVariants.{Two as TwoOp, Move as MoveOp, Branch as BranchOp, Callp as CallpOp, BranchNop as BranchNopOp, BranchReg as BranchRegOp, BranchRegNop as BranchRegNopOp, AddKpc as AddKpcOp, Nop as NopOp, Short as ShortOp, Long as LongOp}
use Rattle.c6x_encoding.specs.declared.unit_kind.UnitKind.{UnitKind}
use Rattle.c6x_asm_lines.specs.declared.number.Number.{Number}
use Rattle.c6x_asm_lines.specs.declared.operand.Operand.{Operand}
use Rattle.c6x_asm_lines.specs.declared.primary.Primary.{Primary}
use Rattle.c6x_asm_lines.specs.declared.primary.Primary.TheVariants.{Register as PrimaryRegister, Number as PrimaryNumber}
use Rattle.c6x_asm_lines.specs.declared.value.Value.TheVariants.{Primary as PrimaryValue}
use Rattle.c6x_asm_instr.specs.Instructions.{is_store, is_swapped}
use Rattle.c6x_dis.proofs.ShownOperands.{AreShown, IsShown, IsShownNumber, IsShownValue}
use Rattle.c6x_dis.specs.Shown.{access_operands, branch_operands, first_operand, long_address, memory_operands, move_number, natural, operands_for, register_at, second_side, short_address, short_offset, signed}

-- what a move's constant is, beside the bounds of the other parts
abbrev pub FitsMove : Op → Type 0
FitsMove (MoveOp kind side bits dst) = bits < 65536
FitsMove _ = Unit {0}

natural_shown : (n : ℕ) → n < 2 ^ 32 → IsShownNumber (natural n)
natural_shown n fits = (n, refl, fits)

signed_shown : (half bits : ℕ) → half ≤ 2 ^ 30 → bits < 2 * half → IsShownNumber (signed half bits)
signed_shown half bits few fits = either (ltb bits half)
  where
    either : (b : Bool) → IsShownNumber (if◌then◌else◌ {A = Number} b (natural bits) (record { negative = true; size = Some (2 * half - bits) }))
    either true = (bits, refl, omega arith)
    either false = (2 * half - bits, refl, omega arith)

first_shown : (unit : UnitKind) (operation : Arith) (side : Side) (first : First) → first_bits first < 32 → IsShown (first_operand unit operation side first)
first_shown unit operation side (FirstRegister n) fits = fits
first_shown unit operation side (FirstConstant bits) fits = either (is_swapped unit operation)
  where
    either : (b : Bool) → IsShownNumber (if◌then◌else◌ {A = Number} b (natural bits) (signed 16 bits))
    either true = natural_shown bits (omega (arith, fits))
    either false = signed_shown 16 bits (omega arith) (omega (arith, fits))

two_shown : (unit : UnitKind) (arith_op : Arith) (side : Side) (cross : Bool) (first : First) (second dst : ℕ) → FitsOp (TwoOp unit arith_op side cross first second dst) → AreShown (operands_for (TwoOp unit arith_op side cross first second dst))
unfolding operands_for
two_shown unit arith_op side cross first second dst fits = either (is_swapped unit arith_op)
  where
    either : (b : Bool) → AreShown (if◌then◌else◌ {A = List Operand} b (register_at (second_side side cross) second ∷ first_operand unit arith_op side first ∷ register_at side dst ∷ []) (first_operand unit arith_op side first ∷ register_at (second_side side cross) second ∷ register_at side dst ∷ []))
    either true = (fits.1, (first_shown unit arith_op side first fits.0, (fits.2, tt)))
    either false = (first_shown unit arith_op side first fits.0, (fits.1, (fits.2, tt)))

move_shown : (kind : MoveKind) (bits : ℕ) → bits < 65536 → IsShownNumber (move_number kind bits)
move_shown Mvk bits fits = signed_shown 32768 bits (omega arith) (omega (arith, fits))
move_shown Mvkh bits fits = natural_shown bits (omega (arith, fits))
move_shown Addk bits fits = signed_shown 32768 bits (omega arith) (omega (arith, fits))

offset_shown : (side : Side) (mode offset : ℕ) → offset < 32 → IsShownValue (short_offset side mode offset)
offset_shown side mode offset fits = either (takes_register mode)
  where
    either : (b : Bool) → IsShownValue (PrimaryValue (if◌then◌else◌ {A = Primary} b (PrimaryRegister (record { side = side; number = offset })) (PrimaryNumber (natural offset))))
    either true = fits
    either false = natural_shown offset (omega (arith, fits))

base_small : (base15 : Bool) → (if base15 then 15 else 14) < 32
base_small true = omega arith
base_small false = omega arith

long_small : (access : Access) (offset : ℕ) → offset < 2 ^ 15 → size_of access * offset < 2 ^ 32
long_small Ldhu offset fits = omega (arith, fits)
long_small Ldbu offset fits = omega (arith, fits)
long_small Ldb offset fits = omega (arith, fits)
long_small Stb offset fits = omega (arith, fits)
long_small Ldh offset fits = omega (arith, fits)
long_small Sth offset fits = omega (arith, fits)
long_small Ldw offset fits = omega (arith, fits)
long_small Stw offset fits = omega (arith, fits)

memory_shown : (access : Access) (address register : Operand) → IsShown address → IsShown register → AreShown (memory_operands access address register)
memory_shown access address register first second = either (is_store access)
  where
    either : (b : Bool) → AreShown (if◌then◌else◌ {A = List Operand} b (register ∷ address ∷ []) (address ∷ register ∷ []))
    either true = (second, (first, tt))
    either false = (first, (second, tt))

pub operands_shown : (op : Op) → FitsOp op → FitsMove op → AreShown (operands_for op)
unfolding operands_for branch_operands access_operands
operands_shown (TwoOp unit arith_op side cross first second dst) fits moves = two_shown unit arith_op side cross first second dst fits
operands_shown (MoveOp kind side bits dst) fits moves = (move_shown kind bits moves, (fits, tt))
operands_shown (BranchOp side field) fits moves = (signed_shown 1048576 field (omega arith) (omega (arith, fits)), tt)
operands_shown (CallpOp side field) fits moves = (signed_shown 1048576 field (omega arith) (omega (arith, fits)), (omega arith, tt))
operands_shown (BranchNopOp side field wait) fits moves = (signed_shown 2048 field (omega arith) (omega (arith, fits.0)), (natural_shown wait (omega (arith, fits.1)), tt))
operands_shown (BranchRegOp cross source) fits moves = (fits, tt)
operands_shown (BranchRegNopOp cross source wait) fits moves = (fits.0, (natural_shown wait (omega (arith, fits.1)), tt))
operands_shown (AddKpcOp field wait dst) fits moves = (signed_shown 64 field (omega arith) (omega (arith, fits.0)), (fits.2, (natural_shown wait (omega (arith, fits.1)), tt)))
operands_shown (NopOp cycles) fits moves = (natural_shown cycles (omega (arith, fits.1)), tt)
operands_shown (ShortOp access unit_side value_side mode offset base register) fits moves =
    memory_shown access (short_address unit_side mode offset base) (register_at value_side register)
    (fits.2, offset_shown unit_side mode offset fits.1) fits.3
operands_shown (LongOp access value_side base15 offset register) fits moves =
    memory_shown access (long_address access base15 offset) (register_at value_side register)
    (base_small base15, (refl, natural_shown (size_of access * offset) (long_small access offset fits.0))) fits.1
