use Rattle.std.proofs.Common.{List, length, ◌∙◌, ap, subst}
use Rattle.c6x_spec.specs.Memory.{Memory}
use Rattle.c6x_machine.specs.Machine.{life}
use Rattle.c6x_plan.specs.declared.module_plan.ModulePlan.{ModulePlan}
use Rattle.c6x_plan.specs.declared.process_plan.ProcessPlan.{ProcessPlan}
use Rattle.c6x_ports.specs.Sink.{Puts}
use Rattle.c6x_cli_steps.proofs.Stages.{puts_first}
use Rattle.c6x_cli_run.specs.TurnBoards.{boards_at}
use Rattle.c6x_cli_run.specs.Boards.{count_of, starts_of}
use Rattle.c6x_cli_run.proofs.Runs.{asked_once}
use Rattle.c6x_cli.specs.Sums.{sums_over}
use Rattle.c6x_cli.proofs.putting.run_generated.Goals as goal

pub returns-clause-puts : goal.returns-clause-puts
returns-clause-puts g c = λ first is.
    let s = starts_of c.args.loading.now in
    let P : List ProcessPlan → Type 0 = λ plans. Puts (sums_over c.args.number (length plans) (length c.as_slice-modules.result.now) s) (g.O.Sink.seen c.args.out.now) (g.O.Sink.seen c.put_sums.new.out) c.put_sums.result in
    let Q : List ModulePlan → Type 0 = λ images. Puts (sums_over c.args.number (count_of c.args.loading.now) (length images) s) (g.O.Sink.seen c.args.out.now) (g.O.Sink.seen c.put_sums.new.out) c.put_sums.result in
    puts_first _ _ _ first _ _ _ (subst Q c.as_slice-modules.ensures (subst P c.as_slice-processes.ensures (c.put_sums.ensures _ s c.run_to_ends-system.ensures.lived)))
    (c.run_to_ends-system.ensures.board ∙ ap (λ (b : Memory). boards_at s (λ number. life (s number)) (count_of c.args.loading.now) b) is)

pub returns-clause-asked : goal.returns-clause-asked
returns-clause-asked g c = asked_once _ _ _ _ c.run_to_ends-system.ensures.answered
