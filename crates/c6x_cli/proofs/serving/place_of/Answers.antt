use Rattle.std.proofs.Common.{◌∙◌, arith, rules, sym}
use Rattle.c6x_cli_steps.specs.Policies.{same_kind}
use Rattle.c6x_cli.proofs.Served.{before_next, found_at, found_none}
use Rattle.c6x_cli.proofs.serving.place_of.Goals as goal

pub places-init : goal.places-init
places-init g c = record { within = omega arith; before = λ k d below. absurd (omega (arith, below)) }

pub returns-then-is_of-clause-place : goal.returns-then-is_of-clause-place
returns-then-is_of-clause-place g c =
    sym (found_at (λ v. same_kind ((goal.Policy-dyn g (v.vtable, v.value)).chooser v.value).kind c.args.kind) c.args.policies.now c.places.place c.index-policies-place.result (search rules) (λ k. c.places.invariant.before k _) c.index-policies-place.is (sym c.is_of.ensures ∙ c.if-is_of.true))

pub places-preserved : goal.places-preserved
places-preserved g c = record {
  within = search rules;
  before = before_next (λ v. same_kind ((goal.Policy-dyn g (v.vtable, v.value)).chooser v.value).kind c.args.kind) _ _ _ c.places.invariant.before (search rules) c.index-policies-place.is
      (sym c.is_of.ensures ∙ c.if-is_of.false);
}

pub returns-clause-place : goal.returns-clause-place
returns-clause-place g c = sym (found_none (λ v. same_kind ((goal.Policy-dyn g (v.vtable, v.value)).chooser v.value).kind c.args.kind) c.args.policies.now c.places.place (search rules) c.places.invariant.before)
