use Rattle.c6x_encoding.specs.declared.op.Op.{Op}
use Rattle.c6x_packet.specs.declared.rule.PairRule.TheVariants.{Cross}
use Rattle.c6x_packet.specs.Rules.{cross_of}
use Rattle.c6x_packet.specs.Taken.{is_other_read}
use Rattle.c6x_packet.proofs.Walks.{Walk}
use Rattle.c6x_packet.proofs.crosses.have_other_registers.Given as goal

abbrev pub invariant-loop-instr : goal.invariant-loop-instr
invariant-loop-instr l = Walk Cross l.instrs l.instr-index (λ (op : Op). is_other_read l.read (cross_of op))
