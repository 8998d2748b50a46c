use Rattle.std.proofs.Common.{rules, ◌∙◌, List, subst, refl, arith, inl}
use Rattle.c6x_plan.specs.declared.process_plan.ProcessPlan.{ProcessPlan}
use Rattle.c6x_ports.specs.Sink.{Puts}
use Rattle.c6x_cli_run.proofs.Settled.{loads_is_settled}
use Rattle.c6x_cli_run.specs.Ends.{ends_text}
use Rattle.c6x_cli_run.specs.Boards.{starts_of}
use Rattle.c6x_cli_run.proofs.Told.{opening_cut, run_cut, run_told}
use Rattle.c6x_cli_run.proofs.telling.tell_loaded.Goals as goal

pub put_bases-requires : goal.put_bases-requires
put_bases-requires g c = loads_is_settled _ _ c.args.loading.now c.requires.loads

pub returns-in_err-put_bases-clause-puts : goal.returns-in_err-put_bases-clause-puts
returns-in_err-put_bases-clause-puts g c = λ first is.
    opening_cut _ _ c.args.loading.now _ _ first _ _ _ (search rules) is c.in_err-put_bases.ensures

pub returns-in_err-system-clause-puts : goal.returns-in_err-system-clause-puts
returns-in_err-system-clause-puts g c = λ first is.
    run_cut _ _ c.args.loading.now _ _ _ first _ _ _ _ (search rules) is c.in_ok-put_bases.ensures c.in_err-system.ensures.cut c.in_err-system.ensures.failed c.in_err-system.ensures.kept

pub returns-clause-puts : goal.returns-clause-puts
returns-clause-puts g c = λ first is.
    let s = starts_of c.args.loading.now in
    let P : List ProcessPlan → Type 0 = λ plans. Puts (ends_text plans s) (g.O.Sink.seen c.tell_to_ends.new.out) (g.O.Sink.seen c.put_ends.new.out) c.put_ends.result in
    run_told _ _ c.args.loading.now _ _ _ _ _ first _ _ _ _ is c.in_ok-put_bases.ensures c.in_ok-system.ensures.told c.in_ok-system.ensures.kept
    (subst P c.as_slice.ensures (c.put_ends.ensures _ s c.in_ok-system.ensures.told.lived))
