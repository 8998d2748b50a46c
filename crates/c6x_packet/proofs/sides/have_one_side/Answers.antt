use Rattle.std.proofs.Common.{sym, ◌∙◌, arith}
use Rattle.c6x_encoding.specs.declared.instr.Instr.{Instr}
use Rattle.c6x_encoding.specs.declared.op.Op.{Op}
use Rattle.c6x_packet.specs.Rules.{breaks, value_side_of}
use Rattle.c6x_packet.proofs.Walks.{walk_start, walk_found, walk_next, walk_end}
use Rattle.c6x_packet.proofs.sides.have_one_side.Goals as goal

pub loop-instr-init : goal.loop-instr-init
loop-instr-init c = walk_start _ _ _ (λ (op : Op). grind arith)

pub returns-then-take_side : goal.returns-then-take_side
returns-then-take_side c = sym (walk_found _ _ _ _ _ (omega arith) c.loop-instr.invariant (sym c.take_side.ensures.before ∙ c.if-take_side.true))

pub loop-instr-preserved : goal.loop-instr-preserved
unfolding breaks
loop-instr-preserved c = walk_next _ _ _ _ _ _ (omega arith) c.loop-instr.invariant (sym c.take_side.ensures.before ∙ c.if-take_side.false) (λ (later : Instr). c.take_side.ensures.after (value_side_of later.op))

pub returns : goal.returns
returns c = sym (walk_end _ _ _ _ (omega arith) c.loop-instr.invariant)
