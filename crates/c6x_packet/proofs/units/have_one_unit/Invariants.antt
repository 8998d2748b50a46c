use Rattle.c6x_encoding.specs.declared.op.Op.{Op}
use Rattle.c6x_packet.specs.declared.rule.PairRule.TheVariants.{Unit}
use Rattle.c6x_packet.specs.Rules.{unit_of}
use Rattle.c6x_packet.specs.Taken.{is_unit_taken}
use Rattle.c6x_packet.proofs.Walks.{Walk}
use Rattle.c6x_packet.proofs.units.have_one_unit.Given as goal

abbrev pub invariant-loop-instr : goal.invariant-loop-instr
invariant-loop-instr l = Walk Unit l.instrs l.instr-index (λ (op : Op). is_unit_taken l.taken (unit_of op))
