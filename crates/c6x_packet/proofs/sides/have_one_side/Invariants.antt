use Rattle.c6x_encoding.specs.declared.op.Op.{Op}
use Rattle.c6x_packet.specs.declared.rule.PairRule.TheVariants.{Side}
use Rattle.c6x_packet.specs.Rules.{value_side_of}
use Rattle.c6x_packet.specs.Taken.{is_side_taken}
use Rattle.c6x_packet.proofs.Walks.{Walk}
use Rattle.c6x_packet.proofs.sides.have_one_side.Given as goal

abbrev pub invariant-loop-instr : goal.invariant-loop-instr
invariant-loop-instr l = Walk Side l.instrs l.instr-index (λ (op : Op). is_side_taken l.taken (value_side_of op))
