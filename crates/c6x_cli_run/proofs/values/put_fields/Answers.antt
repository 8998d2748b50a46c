use Rattle.std.proofs.Common.{rules, ap}
use Rattle.std.proofs.lemmas.List.{drop_all}
use Rattle.c6x_spec.proofs.Puts.{on_err}
use Rattle.c6x_cli_run.specs.Held.{held_fields}
use Rattle.c6x_cli_run.proofs.Leads.{leads_cut, leads_end, leads_first, leads_next}
use Rattle.c6x_cli_run.proofs.Rests.{fields_rest}
use Rattle.c6x_cli_run.proofs.values.put_fields.Goals as goal

pub loop-field-init : goal.loop-field-init
loop-field-init g c = leads_first _ _

pub loop-field-preserved : goal.loop-field-preserved
loop-field-preserved g c =
    leads_next _ _ _ _ _ _ _ (fields_rest c.args.board.now c.args.process.now c.args.image.now c.args.base c.args.fields.now c.loop-field.field-index _ c.loop-field-test.true) c.in_ok-put_held_field.ensures.all c.in_ok-put_held_field.ensures.kept c.loop-field.invariant

pub returns-in_err-put_held_field : goal.returns-in_err-put_held_field
returns-in_err-put_held_field g c = record {
  all = search rules;
  front = on_err _ (leads_cut _ _ _ _ _ _ _ (fields_rest c.args.board.now c.args.process.now c.args.image.now c.args.base c.args.fields.now c.loop-field.field-index _ c.loop-field-test.true) c.in_err-put_held_field.ensures.front c.loop-field.invariant);
  failed = search rules;
  kept = search rules;
}

pub returns : goal.returns
returns g c = record {
  all = leads_end _ _ _ _ (ap (held_fields c.args.board.now c.args.process.now c.args.image.now c.args.base) (drop_all c.loop-field.field-index c.args.fields.now c.loop-field-test.false)) c.loop-field.invariant;
  front = search rules;
  failed = search rules;
  kept = c.loop-field.invariant.kept;
}
