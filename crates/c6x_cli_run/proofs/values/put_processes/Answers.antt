use Rattle.std.proofs.Common.{List, drop, rules, arith, ap}
use Rattle.std.proofs.lemmas.List.{drop_all}
use Rattle.c6x_spec.proofs.Puts.{on_err}
use Rattle.c6x_plan.specs.declared.process_plan.ProcessPlan.{ProcessPlan}
use Rattle.c6x_cli_run.specs.Held.{held_processes}
use Rattle.c6x_cli_run.proofs.Leads.{leads_cut, leads_end, leads_first, leads_next}
use Rattle.c6x_cli_run.proofs.Rests.{processes_rest, ranges_at, seat_at}
use Rattle.c6x_cli_run.proofs.values.put_processes.Goals as goal

pub loop-process-init : goal.loop-process-init
loop-process-init g c = leads_first _ _

pub put_process-requires-clause-seated : goal.put_process-requires-clause-seated
put_process-requires-clause-seated g c =
    seat_at c.args.modules.now c.args.bounds.now c.args.seats.now c.loop-process.process _ _ c.index-bounds-process.is c.index-seats-process.is c.requires.seated (omega arith) (omega arith)

pub put_process-requires-clause-room : goal.put_process-requires-clause-room
put_process-requires-clause-room g c =
    ranges_at c.args.board.now c.args.modules.now c.args.bounds.now c.args.seats.now c.loop-process.process _ _ c.index-bounds-process.is c.index-seats-process.is c.requires.room (omega arith) (omega arith)

pub loop-process-preserved : goal.loop-process-preserved
loop-process-preserved g c =
    leads_next _ _ _ _ _ _ _ (processes_rest c.args.board.now c.args.modules.now c.args.plans.now c.args.bounds.now c.args.seats.now c.loop-process.process _ _ _ c.index-plans-process.is c.index-bounds-process.is c.index-seats-process.is (omega arith) (omega arith) (omega arith)) c.in_ok-put_process.ensures.all c.in_ok-put_process.ensures.kept c.loop-process.invariant

pub returns-in_err-put_process : goal.returns-in_err-put_process
returns-in_err-put_process g c = record {
  all = search rules;
  front = on_err _ (leads_cut _ _ _ _ _ _ _ (processes_rest c.args.board.now c.args.modules.now c.args.plans.now c.args.bounds.now c.args.seats.now c.loop-process.process _ _ _ c.index-plans-process.is c.index-bounds-process.is c.index-seats-process.is (omega arith) (omega arith) (omega arith)) c.in_err-put_process.ensures.front c.loop-process.invariant);
  failed = search rules;
  kept = search rules;
}

pub returns : goal.returns
returns g c = record {
  all = leads_end _ _ _ _ (ap (λ (xs : List ProcessPlan). held_processes c.args.board.now c.args.modules.now xs (drop c.loop-process.process c.args.bounds.now) (drop c.loop-process.process c.args.seats.now)) (drop_all c.loop-process.process c.args.plans.now (omega arith))) c.loop-process.invariant;
  front = search rules;
  failed = search rules;
  kept = c.loop-process.invariant.kept;
}
