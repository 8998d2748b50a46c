-- The process has ended within its limit, so nothing of its life is left.
use Rattle.std.proofs.Common.{sym}
use Rattle.c6x_exec.proofs.Standing.{has_run, stands_within}
use Rattle.c6x_exec.proofs.run.run_to_end.Goals as goal

pub returns-in-Some-clause-runs : goal.returns-in-Some-clause-runs
returns-in-Some-clause-runs c s n k =
    let found = c.cycles.invariant.stands s n k in
    has_run c.cycles.process c.cycles.board s found.0 c.in-Some.end found.1
    (stands_within c.cycles.process c.cycles.board s found.0 found.1 c.cycles.process.sound)
    (sym c.in-Some.ensures.value)
