use Rattle.std.proofs.Common.{◌<◌, ◌+◌, length, sym, ◌∙◌, arith}
use Rattle.c6x_asm_lines.proofs.Pieces.{goes_on_at}
use Rattle.c6x_asm_lines.proofs.operands.operands_of.Goals as goal

pub loop-operand-preserved : goal.loop-operand-preserved
loop-operand-preserved c =
    let inside : c.loop-operand.from + c.operand_at-end.result.0 < length c.args.lexemes.now = omega (arith, c.operand_at-end.ensures.within) in
    record {
      within = omega arith;
      read = rw c.in_ok-push.ensures (sym (goes_on_at c.args.lexemes.now c.loop-operand.from c.loop-operand.operands.items c.in-Some.operand c.operand_at-end.result.0 c.operand_at-end.ensures.end inside (sym c.operand_at-end.ensures.operand ∙ c.in-Some.is)) ∙ c.loop-operand.invariant.read);
    }
