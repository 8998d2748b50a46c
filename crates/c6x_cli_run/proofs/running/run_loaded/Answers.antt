use Rattle.std.proofs.Common.{rules, ◌∙◌, ap, List, subst}
use Rattle.c6x_spec.specs.Memory.{Memory}
use Rattle.c6x_machine.specs.Machine.{life}
use Rattle.c6x_plan.specs.declared.process_plan.ProcessPlan.{ProcessPlan}
use Rattle.c6x_ports.specs.Sink.{Puts}
use Rattle.c6x_cli_steps.proofs.Stages.{puts_first, puts_next, puts_cut}
use Rattle.c6x_cli_run.specs.TurnBoards.{boards_at}
use Rattle.c6x_cli_run.proofs.Settled.{loads_is_settled}
use Rattle.c6x_cli_run.specs.Ends.{ends_text}
use Rattle.c6x_cli_run.specs.Boards.{count_of, starts_of}
use Rattle.c6x_cli_run.proofs.Runs.{asked_once}
use Rattle.c6x_cli_run.proofs.running.run_loaded.Goals as goal

pub put_bases-requires : goal.put_bases-requires
put_bases-requires g c = loads_is_settled _ _ c.args.loading.now c.requires.loads

pub returns-in_err-put_bases-clause-puts : goal.returns-in_err-put_bases-clause-puts
returns-in_err-put_bases-clause-puts g c = λ first is.
    puts_cut _ _ _ _ _ _ _ _ (search rules)
    (puts_first _ _ _ first _ _ _ c.in_err-put_bases.ensures is)

pub returns-clause-puts : goal.returns-clause-puts
returns-clause-puts g c = λ first is.
    let s = starts_of c.args.loading.now in
    let P : List ProcessPlan → Type 0 = λ plans. Puts (ends_text plans s) (g.O.Sink.seen c.put_bases.new.out) (g.O.Sink.seen c.put_ends.new.out) c.put_ends.result in
    puts_next _ _ _ _ _ _ _ _ _ _ _
    (puts_first _ _ _ first _ _ _ c.in_ok-put_bases.ensures is)
    (subst P c.as_slice.ensures (c.put_ends.ensures _ s c.run_to_ends-system.ensures.lived))
    (c.run_to_ends-system.ensures.board ∙ ap (λ (b : Memory). boards_at s (λ number. life (s number)) (count_of c.args.loading.now) b) is)

pub returns-clause-asked : goal.returns-clause-asked
returns-clause-asked g c = asked_once _ _ _ _ c.run_to_ends-system.ensures.answered
