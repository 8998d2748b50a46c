use Rattle.std.proofs.Common.{sym, ◌∙◌, arith}
use Rattle.c6x_encoding.specs.declared.instr.Instr.{Instr}
use Rattle.c6x_encoding.specs.declared.op.Op.{Op}
use Rattle.c6x_packet.specs.Rules.{breaks, cross_of}
use Rattle.c6x_packet.proofs.Walks.{walk_start, walk_found, walk_next, walk_end}
use Rattle.c6x_packet.proofs.crosses.have_other_registers.Goals as goal

pub loop-instr-init : goal.loop-instr-init
loop-instr-init c = walk_start _ _ _ (λ (op : Op). grind arith)

pub returns-then-read_crossed : goal.returns-then-read_crossed
returns-then-read_crossed c = sym (walk_found _ _ _ _ _ (omega arith) c.loop-instr.invariant (sym c.read_crossed.ensures.before ∙ c.if-read_crossed.true))

pub loop-instr-preserved : goal.loop-instr-preserved
unfolding breaks
loop-instr-preserved c = walk_next _ _ _ _ _ _ (omega arith) c.loop-instr.invariant (sym c.read_crossed.ensures.before ∙ c.if-read_crossed.false) (λ (later : Instr). c.read_crossed.ensures.after c.if-read_crossed.false (cross_of later.op))

pub returns : goal.returns
returns c = sym (walk_end _ _ _ _ (omega arith) c.loop-instr.invariant)
