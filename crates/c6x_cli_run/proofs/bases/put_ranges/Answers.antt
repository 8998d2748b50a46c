use Rattle.std.proofs.Common.{ℕ, List, drop, rules, arith, ap}
use Rattle.std.proofs.lemmas.List.{drop_all}
use Rattle.c6x_spec.proofs.Puts.{on_err}
use Rattle.c6x_cli_run.specs.Bases.{range_lines}
use Rattle.c6x_cli_run.proofs.Leads.{leads_cut, leads_end, leads_first, leads_next}
use Rattle.c6x_cli_run.proofs.Rests.{below_at, ranges_rest}
use Rattle.c6x_cli_run.proofs.bases.put_ranges.Goals as goal

pub loop-position-init : goal.loop-position-init
loop-position-init g c = leads_first _ _

pub view-image-requires : goal.view-image-requires
view-image-requires g c = below_at _ c.args.list.now c.loop-position.position c.requires.below (omega arith)

pub loop-position-preserved : goal.loop-position-preserved
loop-position-preserved g c =
    leads_next _ _ _ _ _ _ _ (ranges_rest c.args.process.now c.args.modules.now c.args.list.now c.args.bases.now c.loop-position.position c.view-image.result.now c.view-image.ensures.value (omega arith) (omega arith)) c.in_ok-put_data.ensures.all c.in_ok-put_data.ensures.kept c.loop-position.invariant

pub returns-in_err-put_data : goal.returns-in_err-put_data
returns-in_err-put_data g c = record {
  all = search rules;
  front = on_err _ (leads_cut _ _ _ _ _ _ _ (ranges_rest c.args.process.now c.args.modules.now c.args.list.now c.args.bases.now c.loop-position.position c.view-image.result.now c.view-image.ensures.value (omega arith) (omega arith)) c.in_err-put_data.ensures.front c.loop-position.invariant);
  failed = search rules;
  kept = search rules;
}

pub returns : goal.returns
returns g c = record {
  all = leads_end _ _ _ _ (ap (λ (xs : List ℕ). range_lines c.args.process.now c.args.modules.now xs (drop c.loop-position.position c.args.bases.now)) (drop_all c.loop-position.position c.args.list.now (omega arith))) c.loop-position.invariant;
  front = search rules;
  failed = search rules;
  kept = c.loop-position.invariant.kept;
}
