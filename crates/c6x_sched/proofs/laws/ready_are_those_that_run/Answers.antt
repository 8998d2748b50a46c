use Rattle.c6x_sched.proofs.Open.{ready_runs, runs_ready}
use Rattle.c6x_sched.proofs.laws.ready_are_those_that_run.Goals as goal

pub returns : goal.returns
returns c = λ ps number. (ready_runs ps number, runs_ready ps number)
