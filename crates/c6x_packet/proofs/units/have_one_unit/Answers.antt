use Rattle.std.proofs.Common.{sym, ◌∙◌, arith}
use Rattle.c6x_encoding.specs.declared.instr.Instr.{Instr}
use Rattle.c6x_encoding.specs.declared.op.Op.{Op}
use Rattle.c6x_packet.specs.Rules.{breaks, unit_of}
use Rattle.c6x_packet.proofs.Walks.{walk_start, walk_found, walk_next, walk_end}
use Rattle.c6x_packet.proofs.units.have_one_unit.Goals as goal

pub loop-instr-init : goal.loop-instr-init
loop-instr-init c = walk_start _ _ _ (λ (op : Op). grind arith)

pub returns-then-take_unit : goal.returns-then-take_unit
returns-then-take_unit c = sym (walk_found _ _ _ _ _ (omega arith) c.loop-instr.invariant (sym c.take_unit.ensures.before ∙ c.if-take_unit.true))

pub loop-instr-preserved : goal.loop-instr-preserved
unfolding breaks
loop-instr-preserved c = walk_next _ _ _ _ _ _ (omega arith) c.loop-instr.invariant (sym c.take_unit.ensures.before ∙ c.if-take_unit.false) (λ (later : Instr). c.take_unit.ensures.after (unit_of later.op))

pub returns : goal.returns
returns c = sym (walk_end _ _ _ _ (omega arith) c.loop-instr.invariant)
