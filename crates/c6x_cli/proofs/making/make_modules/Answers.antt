use Rattle.std.proofs.Common.{rules, ℕ, ◌≡◌, ◌+◌, ◌<◌, ◌∷◌, List, drop, get_or, length, refl, sym, subst, ◌∙◌, ap, arith}
use Rattle.std.proofs.lemmas.List.{drop_all}
use Rattle.std.specs.Prelude.{Ok}
use Rattle.c6x_module.specs.declared.module.Module.{Module}
use Rattle.c6x_modules.specs.Owned.{IsNew}
use Rattle.c6x_plan.specs.Limits.{IsLinkPlan}
use Rattle.c6x_plan.specs.declared.module_plan.ModulePlan.{ModulePlan}
use Rattle.c6x_gen.specs.Limits.{IsText}
use Rattle.c6x_cli_run.specs.Loading.{AreNamed, HasAdded}
use Rattle.c6x_cli_run.proofs.Taking.{next_is_new, none_named, one_longer, still_named}
use Rattle.c6x_cli.specs.Made.{with_made}
use Rattle.c6x_cli.proofs.MadeBehind.{left_at, made_end, made_next, made_stop}
use Rattle.c6x_cli.proofs.making.make_modules.Goals as goal

pub loop-place-init : goal.loop-place-init
loop-place-init c = record {
  leads = rw c.new-modules.ensures refl;
  named = subst (λ (xs : List Module). AreNamed xs c.args.images.now) (sym c.new-modules.ensures) (none_named c.args.images.now);
  count = search rules;
}

pub with_made-requires-clause-text : goal.with_made-requires-clause-text
with_made-requires-clause-text c =
    let inside : c.loop-place.place < length c.args.sources.now = omega (arith, c.requires.sourced, c.loop-place-test.true) in
    let text : IsText (get_or c.args.sources.now c.loop-place.place c.index-sources-place.result) = c.requires.texts c.loop-place.place c.index-sources-place.result inside in
    subst IsText (sym c.index-sources-place.is ∙ sym c.as_bytes-source.ensures) text

pub with_made-requires-clause-within : goal.with_made-requires-clause-within
with_made-requires-clause-within c =
    let inside : c.loop-place.place < length c.args.links.now = omega (arith, c.requires.linked, c.loop-place-test.true) in
    let link : IsLinkPlan (get_or c.args.links.now c.loop-place.place c.index-links-place.result) = c.requires.within c.loop-place.place c.index-links-place.result inside in
    subst IsLinkPlan (sym c.index-links-place.is) link

pub with_made-requires-clause-few : goal.with_made-requires-clause-few
with_made-requires-clause-few c = omega (arith, c.loop-place.invariant.count, c.loop-place-test.true, c.requires.few)

pub with_made-requires-clause-fresh : goal.with_made-requires-clause-fresh
with_made-requires-clause-fresh c =
    let inside : length c.loop-place.modules < length c.args.images.now = omega (arith, c.loop-place.invariant.count, c.loop-place-test.true) in
    let at : get_or c.args.images.now (length c.loop-place.modules) c.index-images-place.result ≡ c.index-images-place.result = rw c.loop-place.invariant.count (sym c.index-images-place.is) in
    subst (λ (p : ModulePlan). IsNew c.loop-place.modules p.name) at
    (next_is_new c.loop-place.modules c.args.images.now c.index-images-place.result c.requires.distinct c.loop-place.invariant.named inside)

pub returns-in_err-modules-clause-decides : goal.returns-in_err-modules-clause-decides
returns-in_err-modules-clause-decides c =
    let source : List ℕ = c.as_bytes-source.result.now in
    made_stop _ c.loop-place.modules source c.index-links-place.result c.index-images-place.result
    (drop (c.loop-place.place + 1) c.args.sources.now) (drop c.loop-place.place c.args.sources.now) (drop (c.loop-place.place + 1) c.args.links.now) (drop c.loop-place.place c.args.links.now) (drop (c.loop-place.place + 1) c.args.images.now) (drop c.loop-place.place c.args.images.now)
    c.in_err-modules.field-0.0 _ c.loop-place.invariant.leads
    (left_at c.args.sources.now c.loop-place.place c.index-sources-place.result (omega (arith, c.requires.sourced, c.loop-place-test.true)) c.index-sources-place.is ∙ ap (λ (text : List ℕ). text ∷ drop (c.loop-place.place + 1) c.args.sources.now) (sym c.as_bytes-source.ensures))
    (left_at c.args.links.now c.loop-place.place c.index-links-place.result (omega (arith, c.requires.linked, c.loop-place-test.true)) c.index-links-place.is)
    (left_at c.args.images.now c.loop-place.place c.index-images-place.result (omega (arith, c.loop-place-test.true)) c.index-images-place.is)
    (search rules) c.in_err-modules.ensures.decides

pub loop-place-preserved : goal.loop-place-preserved
loop-place-preserved c =
    let inside : length c.loop-place.modules < length c.args.images.now = omega (arith, c.loop-place.invariant.count, c.loop-place-test.true) in
    let at : get_or c.args.images.now (length c.loop-place.modules) c.index-images-place.result ≡ c.index-images-place.result = rw c.loop-place.invariant.count (sym c.index-images-place.is) in
    let added = subst (λ (p : ModulePlan). HasAdded c.loop-place.modules p.name c.in_ok-modules.modules) (sym at) c.in_ok-modules.ensures.added in
    let made : with_made c.loop-place.modules c.index-sources-place.result c.index-links-place.result c.index-images-place.result ≡ Ok c.in_ok-modules.modules = rw (← c.as_bytes-source.ensures) c.in_ok-modules.ensures.decides in
    record {
      leads = c.loop-place.invariant.leads
          ∙ made_next c.loop-place.modules c.in_ok-modules.modules c.index-sources-place.result c.index-links-place.result c.index-images-place.result
          (drop (c.loop-place.place + 1) c.args.sources.now) (drop c.loop-place.place c.args.sources.now) (drop (c.loop-place.place + 1) c.args.links.now) (drop c.loop-place.place c.args.links.now) (drop (c.loop-place.place + 1) c.args.images.now) (drop c.loop-place.place c.args.images.now)
          (left_at c.args.sources.now c.loop-place.place c.index-sources-place.result (omega (arith, c.requires.sourced, c.loop-place-test.true)) c.index-sources-place.is)
          (left_at c.args.links.now c.loop-place.place c.index-links-place.result (omega (arith, c.requires.linked, c.loop-place-test.true)) c.index-links-place.is)
          (left_at c.args.images.now c.loop-place.place c.index-images-place.result (omega (arith, c.loop-place-test.true)) c.index-images-place.is)
          made;
      named = still_named c.loop-place.modules c.in_ok-modules.modules c.args.images.now c.index-images-place.result c.loop-place.invariant.named added inside;
      count = one_longer c.loop-place.modules c.in_ok-modules.modules c.index-images-place.result.name c.in_ok-modules.ensures.added ∙ ap (λ (n : ℕ). n + 1) c.loop-place.invariant.count;
    }

pub returns-clause-decides : goal.returns-clause-decides
returns-clause-decides c =
    c.loop-place.invariant.leads
    ∙ made_end c.loop-place.modules (drop c.loop-place.place c.args.sources.now) (drop c.loop-place.place c.args.links.now) (drop c.loop-place.place c.args.images.now)
    (drop_all c.loop-place.place c.args.images.now (omega arith))
