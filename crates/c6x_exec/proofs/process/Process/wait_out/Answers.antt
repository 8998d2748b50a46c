use Rattle.std.proofs.Common.{◌∙◌, ◌+◌, refl, rules}
use Rattle.c6x_machine.specs.Machine.{alone}
use Rattle.c6x_exec.proofs.Standing.{stands_next, stands_same}
use Rattle.c6x_exec.proofs.process.Process.wait_out.Goals as goal

pub returns-then-not-wait-clause-stands : goal.returns-then-not-wait-clause-stands
returns-then-not-wait-clause-stands c b s n k =
    stands_same c.loop-done.self _ b s (n + c.loop-done.done) refl (c.wait.ensures.unchanged (search rules)) (c.loop-done.invariant.stands b s n k)

pub loop-done-preserved : goal.loop-done-preserved
loop-done-preserved c = record {
  running = c.wait.ensures.ended ∙ c.loop-done.invariant.running;
  stands = λ b s n k.
      stands_next c.loop-done.self _ b s n c.loop-done.done (c.loop-done.invariant.stands b s n k) c.loop-done.invariant.running refl
      (λ kept. c.wait.ensures.keeps (search rules) b s (alone s (n + c.loop-done.done)) c.loop-done.invariant.running kept);
  areas = c.loop-done.invariant.areas;
  cycles = search rules;
  limit = c.wait.ensures.limit ∙ c.loop-done.invariant.limit;
  few = search rules;
}
