use Rattle.std.proofs.Common.{List, rules, arith, ap}
use Rattle.std.proofs.lemmas.List.{drop_all}
use Rattle.c6x_spec.proofs.Puts.{on_err}
use Rattle.c6x_plan.specs.declared.process_plan.ProcessPlan.{ProcessPlan}
use Rattle.c6x_cli_run.specs.Ends.{ends_from}
use Rattle.c6x_cli_run.proofs.Leads.{leads_cut, leads_end, leads_first, leads_next}
use Rattle.c6x_cli_run.proofs.Rests.{ends_rest}
use Rattle.c6x_cli_run.proofs.ends.put_ends.Goals as goal

pub loop-number-init : goal.loop-number-init
loop-number-init g c b s lived = leads_first _ _

pub put_end-requires : goal.put_end-requires
put_end-requires g c = c.requires.ended c.loop-number.number c.process.result.now c.process.ensures

pub loop-number-preserved : goal.loop-number-preserved
loop-number-preserved g c b s lived =
    let put = c.in_ok-put_end.ensures b (s c.loop-number.number) (lived c.loop-number.number c.process.result.now c.process.ensures) in
    leads_next _ _ _ _ _ _ _ (ends_rest s c.args.plans.now c.loop-number.number c.index-plans-number.result c.index-plans-number.is (omega arith)) put.all put.kept (c.loop-number.invariant b s lived)

pub returns-in_err-put_end : goal.returns-in_err-put_end
returns-in_err-put_end g c b s lived =
    let put = c.in_err-put_end.ensures b (s c.loop-number.number) (lived c.loop-number.number c.process.result.now c.process.ensures) in
    let led = c.loop-number.invariant b s lived in
    record {
      all = search rules;
      front = on_err _ (leads_cut _ _ _ _ _ _ _ (ends_rest s c.args.plans.now c.loop-number.number c.index-plans-number.result c.index-plans-number.is (omega arith)) put.front led);
      failed = search rules;
      kept = search rules;
    }

pub returns : goal.returns
returns g c b s lived =
    let led = c.loop-number.invariant b s lived in
    record {
      all = leads_end _ _ _ _ (ap (λ (ps : List ProcessPlan). ends_from s c.loop-number.number ps) (drop_all c.loop-number.number c.args.plans.now (omega arith))) led;
      front = search rules;
      failed = search rules;
      kept = led.kept;
    }
