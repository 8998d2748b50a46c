use Rattle.std.proofs.Common.{◌≡◌, false, List, subst}
use Rattle.c6x_spec.specs.Parts.{filled_with}
use Rattle.c6x_plan.specs.declared.process_plan.ProcessPlan.{ProcessPlan}
use Rattle.c6x_load.specs.Loaded.{plan_parts}
use Rattle.c6x_cli_run.proofs.Loads.{loads_later}
use Rattle.c6x_cli_run.proofs.starting.write_start.Goals as goal

pub returns-clause-board : goal.returns-clause-board
returns-clause-board c =
    let loading = c.args.loading.now in
    let P : List ProcessPlan → Type 0 = λ plans. c.load_parts.new.board ≡ filled_with (plan_parts false loading.modules plans loading.bound.processes loading.placement) c.args.board.now in
    subst P c.as_slice-processes.ensures c.load_parts.ensures.after

pub returns-clause-loads : goal.returns-clause-loads
returns-clause-loads c =
    loads_later c.args.loading.now c.args.board.now c.load_parts.new.board c.requires c.load_parts.ensures.start.base c.load_parts.ensures.start.size
