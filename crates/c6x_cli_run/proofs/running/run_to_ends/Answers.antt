use Rattle.std.proofs.Common.{rules, arith, ◌≡◌, length}
use Rattle.c6x_sched.specs.System.{processes_of}
use Rattle.c6x_cli_run.specs.Boards.{count_of, starts_of}
use Rattle.c6x_cli_run.proofs.Runs.{answered, board_is, some_ready}
use Rattle.c6x_cli_run.proofs.running.run_to_ends.Goals as goal

pub returns-clause-lived : goal.returns-clause-lived
returns-clause-lived g c =
    c.run.ensures.ran (starts_of c.args.loading.now) (λ number. 0)
    (rw c.of-system.ensures.processes c.requires.ready.apart)
    (rw c.of-system.ensures.processes c.requires.ready.stand)

pub returns-clause-board : goal.returns-clause-board
returns-clause-board g c =
    board_is _ _ _ _ (starts_of c.args.loading.now) (λ number. 0) _ _ (rw c.of-system.ensures.processes c.requires.ready.stand)
    (c.run.ensures.lives (starts_of c.args.loading.now) (λ number. 0) (rw c.of-system.ensures.processes c.requires.ready.apart) (rw c.of-system.ensures.processes c.requires.ready.stand))
    c.run.ensures.length
    (rw c.of-system.ensures.processes c.requires.ready.count)
    c.run.ensures.frame

pub returns-clause-answered : goal.returns-clause-answered
returns-clause-answered g c =
    let count : length (processes_of c.of-system.result) ≡ count_of c.args.loading.now = rw c.of-system.ensures.processes c.requires.ready.count in
    let now = (goal.Policy-dyn g (c.run.new.policy.vtable, c.run.new.policy.value)).chooser c.run.new.policy.value in
    answered c.args.loading.now _ _ _ _ _ _ _ _ now count c.of-system.ensures.quantum c.begin.ensures (search rules)
    (c.run.ensures.played (starts_of c.args.loading.now) (λ number. 0) (rw c.of-system.ensures.processes c.requires.ready.apart) (rw c.of-system.ensures.processes c.requires.ready.stand))
    c.run.ensures.kind
    (c.run.ensures.answered (some_ready _ (rw c.of-system.ensures.processes c.requires.ready.fresh) (omega (arith, count, c.requires.loads.plan.some))))
