-- Each valid instruction is read back from its shown line.
use Rattle.std.proofs.Common.{Bool}
use Rattle.c6x_encoding.specs.Spelling.{IsValid}
use Rattle.c6x_encoding.specs.declared.cond.Cond.{Cond}
use Rattle.c6x_encoding.specs.declared.instr.Instr.{Instr}
use Rattle.c6x_encoding.specs.declared.op.Op.{Op}
use Rattle.c6x_encoding.specs.declared.op.Op.TheVariants.{Two as TwoOp, Move as MoveOp, Branch as BranchOp, Callp as CallpOp, BranchNop as BranchNopOp, BranchReg as BranchRegOp, BranchRegNop as BranchRegNopOp, AddKpc as AddKpcOp, Nop as NopOp, Short as ShortOp, Long as LongOp}
use Rattle.c6x_encoding.proofs.Bounds.{fits_valid}
use Rattle.c6x_dis.specs.Lines.{IsLineRead}
use Rattle.c6x_dis.proofs.Forms.{FitsMove, operands_shown}
use Rattle.c6x_dis.proofs.ShownOperands.{AreShown}
use Rattle.c6x_dis.proofs.Spelled.{line_is_read}
use Rattle.c6x_dis.specs.Shown.{operands_for}
use Rattle.c6x_dis.proofs.Valid.{move_fits}
use Rattle.c6x_dis.proofs.Words.{read_back}

moves_fit : (c : Cond) (op : Op) (chained : Bool) → IsValid (record { condition = c; op = op; chained = chained }) → FitsMove op
moves_fit c (MoveOp kind side bits dst) chained valid = move_fits c kind side bits dst chained valid
moves_fit c (TwoOp unit arith side cross first second dst) chained valid = tt
moves_fit c (BranchOp side field) chained valid = tt
moves_fit c (CallpOp side field) chained valid = tt
moves_fit c (BranchNopOp side field wait) chained valid = tt
moves_fit c (BranchRegOp cross source) chained valid = tt
moves_fit c (BranchRegNopOp cross source wait) chained valid = tt
moves_fit c (AddKpcOp field wait dst) chained valid = tt
moves_fit c (NopOp cycles) chained valid = tt
moves_fit c (ShortOp access unit_side value_side mode offset base register) chained valid = tt
moves_fit c (LongOp access value_side base15 offset register) chained valid = tt

pub shown_operands : (i : Instr) → IsValid i → AreShown (operands_for i.op)
shown_operands i valid = operands_shown i.op (fits_valid i valid) (moves_fit i.condition i.op i.chained valid)

pub lines_read : (i : Instr) → IsValid i → IsLineRead i
lines_read i valid = line_is_read i (shown_operands i valid) (read_back i valid)
