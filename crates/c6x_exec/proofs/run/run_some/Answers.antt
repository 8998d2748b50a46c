use Rattle.std.proofs.Common.{◌≡◌, ◌+◌, ℕ, arith, subst}
use Rattle.c6x_exec.specs.Process.{StandsFor}
use Rattle.c6x_exec.proofs.run.run_some.Goals as goal

pub returns-then-waited-most-clause-stands : goal.returns-then-waited-most-clause-stands
returns-then-waited-most-clause-stands c s n k = c.wait_out-waited.ensures.stands _ s n k

pub returns-clause-stands : goal.returns-clause-stands
returns-clause-stands c s n k =
    let P : ℕ → Type 0 = λ m. StandsFor c.advance.new.self c.advance.new.board s m in
    let more : n + c.wait_out-waited.result + 1 ≡ n + (c.wait_out-waited.result + 1) = omega arith in
    subst P more (c.advance.ensures.stands s _ (c.wait_out-waited.ensures.stands _ s n k))
