use Rattle.std.proofs.Common.{rules, ℕ, ◌≡◌, ◌+◌, ◌<◌, List, drop, get_or, length, sym, subst, ◌∙◌, ap, arith}
use Rattle.std.proofs.lemmas.List.{drop_all}
use Rattle.c6x_module.specs.declared.module.Module.{Module}
use Rattle.c6x_modules.specs.Owned.{IsNew}
use Rattle.c6x_plan.specs.declared.module_plan.ModulePlan.{ModulePlan}
use Rattle.c6x_cli_run.specs.Loading.{AreNamed, HasAdded}
use Rattle.c6x_cli_run.proofs.ImageLemmas.{images_end, images_next, images_start, images_stop, planned_from}
use Rattle.c6x_cli_run.proofs.Taking.{next_is_new, none_named, one_longer, still_named}
use Rattle.c6x_cli_run.proofs.images.fetch_modules.Goals as goal

pub loop-image-init : goal.loop-image-init
loop-image-init g c = record {
  leads = λ after result p. images_start c.new-modules.result c.args.planned.now _ after result c.new-modules.ensures p;
  named = subst (λ (xs : List Module). AreNamed xs c.args.planned.now) (sym c.new-modules.ensures) (none_named c.args.planned.now);
  count = search rules;
}

pub with_image-requires-clause-few : goal.with_image-requires-clause-few
with_image-requires-clause-few g c = omega (arith, c.loop-image.invariant.count, c.loop-image-test.true, c.requires.few)

pub with_image-requires-clause-fresh : goal.with_image-requires-clause-fresh
with_image-requires-clause-fresh g c =
    let inside : length c.loop-image.modules < length c.args.planned.now = omega (arith, c.loop-image.invariant.count, c.loop-image-test.true) in
    let at : get_or c.args.planned.now (length c.loop-image.modules) c.image-item.result ≡ c.image-item.result = rw c.loop-image.invariant.count (sym c.image-item.is) in
    subst (λ (p : ModulePlan). IsNew c.loop-image.modules p.name) at
    (next_is_new c.loop-image.modules c.args.planned.now c.image-item.result c.requires.distinct c.loop-image.invariant.named inside)

pub returns-in_err-modules-clause-prepares : goal.returns-in_err-modules-clause-prepares
returns-in_err-modules-clause-prepares g c =
    c.loop-image.invariant.leads _ _ (images_stop c.loop-image.modules c.image-item.result (drop (c.loop-image.image-index + 1) c.args.planned.now) _ _ _ c.in_err-modules.field-0.0 _ (planned_from c.args.planned.now c.loop-image.image-index c.image-item.result c.loop-image-test.true c.image-item.is) (search rules) c.in_err-modules.ensures.prepares)

pub loop-image-preserved : goal.loop-image-preserved
loop-image-preserved g c =
    let inside : length c.loop-image.modules < length c.args.planned.now = omega (arith, c.loop-image.invariant.count, c.loop-image-test.true) in
    let at : get_or c.args.planned.now (length c.loop-image.modules) c.image-item.result ≡ c.image-item.result = rw c.loop-image.invariant.count (sym c.image-item.is) in
    let added = subst (λ (p : ModulePlan). HasAdded c.loop-image.modules p.name c.in_ok-modules.modules) (sym at) c.in_ok-modules.ensures.added in
    record {
      leads = λ after result p. c.loop-image.invariant.leads after result (images_next c.loop-image.modules c.in_ok-modules.modules c.image-item.result (drop (c.loop-image.image-index + 1) c.args.planned.now) _ _ _ after result (planned_from c.args.planned.now c.loop-image.image-index c.image-item.result c.loop-image-test.true c.image-item.is) c.in_ok-modules.ensures.prepares p);
      named = still_named c.loop-image.modules c.in_ok-modules.modules c.args.planned.now c.image-item.result c.loop-image.invariant.named added inside;
      count = one_longer c.loop-image.modules c.in_ok-modules.modules c.image-item.result.name c.in_ok-modules.ensures.added ∙ ap (λ (n : ℕ). n + 1) c.loop-image.invariant.count;
    }

pub returns-clause-prepares : goal.returns-clause-prepares
returns-clause-prepares g c =
    c.loop-image.invariant.leads _ _ (images_end c.loop-image.modules (drop c.loop-image.image-index c.args.planned.now) _ (drop_all c.loop-image.image-index c.args.planned.now c.loop-image-test.false))
