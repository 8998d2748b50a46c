use Rattle.std.proofs.Common.{ℕ, ◌+◌, ◌≡◌, arith, rules, subst}
use Rattle.c6x_exec.specs.Process.{StandsFor}
use Rattle.c6x_exec.proofs.Standing.{count_ended, count_full}
use Rattle.c6x_exec.proofs.run.run_cycles.Goals.{then-is_some-via-then-is_some, then-is_some-via-else-is_some+then-done-steps}
use Rattle.c6x_exec.proofs.run.run_cycles.Goals as goal

pub returns-then-is_some-clause-count : goal.returns-then-is_some-clause-count
returns-then-is_some-clause-count c s n k =
    let more : n + c.cycles.done + c.run_some-done.result ≡ n + (c.cycles.done + c.run_some-done.result) = omega arith in
    let P : ℕ → Type 0 = λ m. StandsFor c.run_some-done.new.process c.run_some-done.new.board s m in
    let stands : StandsFor c.run_some-done.new.process c.run_some-done.new.board s (n + (c.cycles.done + c.run_some-done.result)) = subst P more (c.run_some-done.ensures.stands s _ (c.cycles.invariant.stands s n k)) in
    elim c.then-is_some.branch [
      | then-is_some-via-then-is_some w ↦ count_ended _ _ s n _ c.args.steps c.ended-end.result stands c.run_some-done.new.process.sound c.ended-end.ensures.value (search rules) (omega arith)
      | then-is_some-via-else-is_some+then-done-steps w ↦ count_full _ _ s n _ c.args.steps stands c.run_some-done.new.process.sound (search rules)
    ]
