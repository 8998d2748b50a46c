-- The words of a shown line name its mnemonic and its unit.
use Rattle.std.proofs.Common.{◌≡◌, ℕ, Bool, true, false, Some, refl}
use Rattle.c6x_base.specs.declared.side.Side.{Side}
use Rattle.c6x_base.specs.declared.side.Side.TheVariants.{A, B}
use Rattle.c6x_encoding.specs.declared.access.Access.{Access}
use Rattle.c6x_encoding.specs.declared.access.Access.TheVariants.{Ldhu, Ldbu, Ldb, Stb, Ldh, Sth, Ldw, Stw}
use Rattle.c6x_encoding.specs.declared.arith.Arith.TheVariants.{Add, Sub, And, Or, Xor, CmpEq, CmpGt, CmpLt, CmpGtu, CmpLtu, Shl, Shr, Shru, Mpy, Mpyu}
use Rattle.c6x_encoding.specs.declared.cond.Cond.{Cond}
use Rattle.c6x_encoding.specs.declared.instr.Instr.{Instr}
use Rattle.c6x_encoding.specs.declared.move_kind.MoveKind.TheVariants.{Mvk, Mvkh, Addk}
use Rattle.c6x_encoding.specs.declared.op.Op.{Op}
use Rattle.c6x_encoding.specs.declared.op.Op.TheVariants.{Two as TwoOp, Move as MoveOp, Branch as BranchOp, Callp as CallpOp, BranchNop as BranchNopOp, BranchReg as BranchRegOp, BranchRegNop as BranchRegNopOp, AddKpc as AddKpcOp, Nop as NopOp, Short as ShortOp, Long as LongOp}
use Rattle.c6x_encoding.specs.declared.unit_kind.UnitKind.{UnitKind}
use Rattle.c6x_encoding.specs.declared.unit_kind.UnitKind.TheVariants.{L, S, D, M}
use Rattle.c6x_encoding.specs.Spelling.{IsValid}
use Rattle.c6x_encoding.proofs.Bounds.{fits_valid}
use Rattle.c6x_asm_lines.specs.OperandNames.{mnemonic_name, mnemonic_of, unit_of}
use Rattle.c6x_asm_lines.specs.declared.mnemonic.Mnemonic.{Mnemonic}
use Rattle.c6x_asm_lines.specs.declared.mnemonic.Mnemonic.TheVariants.{Two, Move, B as BranchTo, Bnop, Callp, AddKpc, Nop, Memory}
use Rattle.c6x_dis.specs.Reads.{IsReadBack, unit_read}
use Rattle.c6x_dis.specs.Shown.{mnemonic_for, unit_for, unit_with, path_for}
use Rattle.c6x_dis.proofs.Reading.{operands_read}
use Rattle.c6x_dis.proofs.Valid.{d_own}

mnemonic_again : (m : Mnemonic) → mnemonic_of (mnemonic_name m) ≡ Some m
unfolding mnemonic_of
mnemonic_again (Two Add) = refl
mnemonic_again (Two Sub) = refl
mnemonic_again (Two And) = refl
mnemonic_again (Two Or) = refl
mnemonic_again (Two Xor) = refl
mnemonic_again (Two CmpEq) = refl
mnemonic_again (Two CmpGt) = refl
mnemonic_again (Two CmpLt) = refl
mnemonic_again (Two CmpGtu) = refl
mnemonic_again (Two CmpLtu) = refl
mnemonic_again (Two Shl) = refl
mnemonic_again (Two Shr) = refl
mnemonic_again (Two Shru) = refl
mnemonic_again (Two Mpy) = refl
mnemonic_again (Two Mpyu) = refl
mnemonic_again (Move Mvk) = refl
mnemonic_again (Move Mvkh) = refl
mnemonic_again (Move Addk) = refl
mnemonic_again BranchTo = refl
mnemonic_again Bnop = refl
mnemonic_again Callp = refl
mnemonic_again AddKpc = refl
mnemonic_again Nop = refl
mnemonic_again (Memory Ldhu) = refl
mnemonic_again (Memory Ldbu) = refl
mnemonic_again (Memory Ldb) = refl
mnemonic_again (Memory Stb) = refl
mnemonic_again (Memory Ldh) = refl
mnemonic_again (Memory Sth) = refl
mnemonic_again (Memory Ldw) = refl
mnemonic_again (Memory Stw) = refl

two_named : (unit : UnitKind) (side : Side) (cross : Bool) → (unit ≡ D → false ≡ cross) → unit_read (unit_with unit side (path_for cross)) ≡ unit_with unit side (path_for cross)
unfolding unit_of
two_named L A true own = refl
two_named L A false own = refl
two_named L B true own = refl
two_named L B false own = refl
two_named S A true own = refl
two_named S A false own = refl
two_named S B true own = refl
two_named S B false own = refl
two_named M A true own = refl
two_named M A false own = refl
two_named M B true own = refl
two_named M B false own = refl
two_named D A false own = refl
two_named D B false own = refl
two_named D side true own = absurd (no (own refl))
  where
    no : false ≡ true → ⊥
    no e = cc

s_named : (side : Side) (cross : Bool) → unit_read (unit_with S side (path_for cross)) ≡ unit_with S side (path_for cross)
s_named side cross = two_named S side cross (λ e. cc)

access_named : (side value : Side) (access : Access) (mode offset base register : ℕ) → unit_read (unit_for (ShortOp access side value mode offset base register)) ≡ unit_for (ShortOp access side value mode offset base register)
unfolding unit_of
access_named A A access mode offset base register = refl
access_named A B access mode offset base register = refl
access_named B A access mode offset base register = refl
access_named B B access mode offset base register = refl

unit_again : (condition : Cond) (op : Op) (chained : Bool) → IsValid (record { condition = condition; op = op; chained = chained }) → unit_read (unit_for op) ≡ unit_for op
unit_again c (TwoOp L arith side cross first second dst) chained valid = two_named L side cross (λ e. cc)
unit_again c (TwoOp S arith side cross first second dst) chained valid = two_named S side cross (λ e. cc)
unit_again c (TwoOp M arith side cross first second dst) chained valid = two_named M side cross (λ e. cc)
unit_again c (TwoOp D arith side cross first second dst) chained valid = two_named D side cross (λ e. d_own c arith side cross first second dst chained valid)
unit_again c (MoveOp kind side bits dst) chained valid = s_named side false
unit_again c (BranchOp side field) chained valid = s_named side false
unit_again c (CallpOp side field) chained valid = s_named side false
unit_again c (BranchNopOp side field wait) chained valid = s_named side false
unit_again c (BranchRegOp cross source) chained valid = s_named B cross
unit_again c (BranchRegNopOp cross source wait) chained valid = s_named B cross
unit_again c (AddKpcOp field wait dst) chained valid = s_named B false
unit_again c (NopOp cycles) chained valid = refl
unit_again c (ShortOp access unit_side value_side mode offset base register) chained valid = access_named unit_side value_side access mode offset base register
unit_again c (LongOp access value_side base15 offset register) chained valid = access_named B value_side access 0 0 0 0

pub read_back : (i : Instr) → IsValid i → IsReadBack i
read_back i valid = record {
  mnemonic = mnemonic_again (mnemonic_for i.op);
  unit = unit_again i.condition i.op i.chained valid;
  operands = λ text head same word named. operands_read text head i.condition i.op i.chained valid (fits_valid i valid) same word named;
}
