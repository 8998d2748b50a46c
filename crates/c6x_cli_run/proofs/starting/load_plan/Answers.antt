use Rattle.std.proofs.Common.{◌≡◌, false, List, length, subst, ap, ◌∙◌}
use Rattle.c6x_spec.specs.Parts.{filled_with}
use Rattle.c6x_plan.specs.declared.process_plan.ProcessPlan.{ProcessPlan}
use Rattle.c6x_sched.specs.Together.{AllStand}
use Rattle.c6x_load.specs.Loaded.{plan_parts}
use Rattle.c6x_load.specs.Starts.{origins}
use Rattle.c6x_cli_run.proofs.Loads.{loads_later}
use Rattle.c6x_cli_run.proofs.starting.load_plan.Goals as goal

pub returns-clause-board : goal.returns-clause-board
returns-clause-board c =
    let loading = c.args.loading.now in
    let P : List ProcessPlan → Type 0 = λ plans. c.load.new.board ≡ filled_with (plan_parts false loading.modules plans loading.bound.processes loading.placement) c.args.board.now in
    subst P c.as_slice-processes.ensures c.in_ok-loaded.ensures.after

pub returns-clause-loads : goal.returns-clause-loads
returns-clause-loads c =
    loads_later c.args.loading.now c.args.board.now c.load.new.board c.requires c.in_ok-loaded.ensures.start.base c.in_ok-loaded.ensures.start.size

pub returns-clause-ready : goal.returns-clause-ready
returns-clause-ready c =
    let loading = c.args.loading.now in
    let P : List ProcessPlan → Type 0 = λ plans. AllStand c.in_ok-loaded.loaded.processes.items c.load.new.board (origins loading.modules plans loading.bound.processes loading.placement) (λ number. 0) in
    record {
      stand = subst P c.as_slice-processes.ensures c.in_ok-loaded.ensures.stand;
      apart = c.in_ok-loaded.ensures.apart;
      lie = c.in_ok-loaded.ensures.lie;
      count = c.in_ok-loaded.ensures.count ∙ ap (λ (plans : List ProcessPlan). length plans) c.as_slice-processes.ensures;
      fresh = c.in_ok-loaded.ensures.fresh;
      ready = c.in_ok-loaded.ensures.ready;
      room = c.in_ok-loaded.ensures.room;
    }
