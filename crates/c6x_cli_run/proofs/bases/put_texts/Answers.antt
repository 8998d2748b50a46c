use Rattle.std.proofs.Common.{List, drop, rules, arith, ap}
use Rattle.std.specs.Prelude.{None}
use Rattle.std.proofs.lemmas.List.{drop_all}
use Rattle.c6x_spec.proofs.Puts.{on_err}
use Rattle.c6x_module.specs.declared.module.Module.{Module}
use Rattle.c6x_cli_run.specs.Bases.{text_lines}
use Rattle.c6x_cli_run.proofs.Leads.{leads_cut, leads_end, leads_first, leads_next}
use Rattle.c6x_cli_run.proofs.Rests.{texts_rest}
use Rattle.c6x_cli_run.proofs.bases.put_texts.Goals as goal

pub loop-number-init : goal.loop-number-init
loop-number-init g c = leads_first _ _

pub loop-number-preserved : goal.loop-number-preserved
loop-number-preserved g c =
    leads_next _ _ _ _ _ _ _ (texts_rest c.args.modules.now c.args.texts.now c.loop-number.number c.index-modules-number.result None c.index-modules-number.is (omega arith) (omega arith)) c.in_ok-put_placed_text.ensures.all c.in_ok-put_placed_text.ensures.kept c.loop-number.invariant

pub returns-in_err-put_placed_text : goal.returns-in_err-put_placed_text
returns-in_err-put_placed_text g c = record {
  all = search rules;
  front = on_err _ (leads_cut _ _ _ _ _ _ _ (texts_rest c.args.modules.now c.args.texts.now c.loop-number.number c.index-modules-number.result None c.index-modules-number.is (omega arith) (omega arith)) c.in_err-put_placed_text.ensures.front c.loop-number.invariant);
  failed = search rules;
  kept = search rules;
}

pub returns : goal.returns
returns g c = record {
  all = leads_end _ _ _ _ (ap (λ (xs : List Module). text_lines xs (drop c.loop-number.number c.args.texts.now)) (drop_all c.loop-number.number c.args.modules.now (omega arith))) c.loop-number.invariant;
  front = search rules;
  failed = search rules;
  kept = c.loop-number.invariant.kept;
}
