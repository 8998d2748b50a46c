use Rattle.std.proofs.Common.{◌≡◌, ◌<◌, ℕ, List, length, sym, ap, subst, arith}
use Rattle.c6x_exec.specs.declared.process.Process.{Process}
use Rattle.c6x_ports.specs.Picks.{IsReady}
use Rattle.c6x_sched.specs.Ran.{IsTurned}
use Rattle.c6x_sched.proofs.Open.{ready_is, ready_some, ready_open, runs_at}
use Rattle.c6x_sched.proofs.one_turn.run_picked.Goals as goal

pub effective_pick-picked-requires-clause-ready : goal.effective_pick-picked-requires-clause-ready
effective_pick-picked-requires-clause-ready c =
    let P : List ℕ → Type 0 = λ ready. IsReady ready in
    subst P (sym c.requires.listed) (ready_is c.args.processes.now.items c.requires.open c.requires.few)

pub run_at-ran-requires-clause-within : goal.run_at-ran-requires-clause-within
run_at-ran-requires-clause-within c = omega (arith, (ready_open c.args.processes.now.items c.args.ready.now c.effective_pick-picked.result.process c.requires.listed c.effective_pick-picked.ensures.ready).to)

pub run_at-ran-requires-clause-running : goal.run_at-ran-requires-clause-running
run_at-ran-requires-clause-running c = runs_at c.args.processes.now.items c.effective_pick-picked.result.process (ready_open c.args.processes.now.items c.args.ready.now c.effective_pick-picked.result.process c.requires.listed c.effective_pick-picked.ensures.ready)

pub effective_pick-picked-requires-clause-some : goal.effective_pick-picked-requires-clause-some
effective_pick-picked-requires-clause-some c =
    let some : 0 < length c.args.processes.now.items = ready_some c.args.processes.now.items c.requires.open in
    let same : length c.as_slice.result.now ≡ length c.args.processes.now.items = ap (λ (ps : List Process). length ps) c.as_slice.ensures.value in
    omega arith

pub returns-clause-turned : goal.returns-clause-turned
returns-clause-turned c =
    let P : ℕ → Type 0 = λ steps. IsTurned c.args.processes.now.items c.run_at-ran.new.processes.items c.args.board.now c.run_at-ran.new.board c.effective_pick-picked.result.process steps c.run_at-ran.result in
    subst P c.effective_pick-picked.ensures.steps c.run_at-ran.ensures
