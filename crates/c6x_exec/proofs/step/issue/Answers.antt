use Rattle.std.proofs.Common.{◌∙◌, ap, arith, ℕ, List}
use Rattle.std.specs.Prelude.{slice_index}
use Rattle.c6x_machine.specs.declared.end.End.TheVariants.{Exit}
use Rattle.c6x_exec.proofs.Amid.{amid}
use Rattle.c6x_exec.proofs.Registers.{register_in}
use Rattle.c6x_exec.proofs.Steps.{exit_issued, put_issued, packet_issued}
use Rattle.c6x_exec.proofs.step.issue.Goals as goal

pub returns-then-at-eq-EXIT_GATE-clause-comes : goal.returns-then-at-eq-EXIT_GATE-clause-comes
returns-then-at-eq-EXIT_GATE-clause-comes c s h n areas k =
    rw (exit_issued s h n c.args.at c.if-at-eq-EXIT_GATE.true)
    (ap Exit (c.get.ensures ∙ ap (λ (all : List ℕ). slice_index all 4) k.registers ∙ register_in s.registers h n 4 (omega arith)), amid _ _ s h n k)

pub returns-then-at-eq-PUT_GATE-clause-comes : goal.returns-then-at-eq-PUT_GATE-clause-comes
returns-then-at-eq-PUT_GATE-clause-comes c s h n areas k =
    rw (put_issued s h n c.args.at c.if-at-eq-PUT_GATE.true) (c.put.ensures.comes _ s h n k)

pub returns-else-at-eq-PUT_GATE-clause-comes : goal.returns-else-at-eq-PUT_GATE-clause-comes
returns-else-at-eq-PUT_GATE-clause-comes c s h n areas k =
    rw (packet_issued s h n c.args.at c.if-at-eq-EXIT_GATE.false c.if-at-eq-PUT_GATE.false) (c.packet.ensures.comes s h n areas k)
