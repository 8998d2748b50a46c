use Rattle.std.proofs.Common.{◌≡◌, subst, sym, ap, ◌∙◌}
use Rattle.std.specs.Prelude.{None}
use Rattle.c6x_layout.specs.Alignments.{alignments_refusal}
use Rattle.c6x_layout.specs.Layouts.{laying}
use Rattle.c6x_layout.specs.declared.layout.Layout.{Layout}
use Rattle.c6x_link.specs.Worked.{IsWorkedOut}
use Rattle.c6x_link.specs.Working.{Working, worked_out}
use Rattle.c6x_link.proofs.Placed.{aligned_by, worked_by}
use Rattle.c6x_link.proofs.linking.link_laid.Goals as goal

pub make_file-requires-clause-worked : goal.make_file-requires-clause-worked
make_file-requires-clause-worked c =
    let P : Working → Type 0 = λ w. IsWorkedOut w in
    let W : Layout → Working = λ l. record { objects = c.args.objects.now; plan = c.args.plan.now; bindings = c.args.bindings.now; words = c.args.tables.now.words; stubs = c.args.tables.now.stubs; layout = l } in
    let is : c.in_ok-link.link ≡ worked_out (laying c.args.objects.now c.args.bindings.now c.args.tables.now.words c.args.tables.now.stubs c.args.plan.now) = c.in_ok-link.ensures ∙ ap W c.requires.layout in
    subst P (sym is) (worked_by (laying c.args.objects.now c.args.bindings.now c.args.tables.now.words c.args.tables.now.stubs c.args.plan.now) c.requires.laid c.requires.form)

pub make_file-requires-clause-aligned : goal.make_file-requires-clause-aligned
make_file-requires-clause-aligned c =
    let P : Working → Type 0 = λ w. alignments_refusal w.objects ≡ None in
    let W : Layout → Working = λ l. record { objects = c.args.objects.now; plan = c.args.plan.now; bindings = c.args.bindings.now; words = c.args.tables.now.words; stubs = c.args.tables.now.stubs; layout = l } in
    let is : c.in_ok-link.link ≡ worked_out (laying c.args.objects.now c.args.bindings.now c.args.tables.now.words c.args.tables.now.stubs c.args.plan.now) = c.in_ok-link.ensures ∙ ap W c.requires.layout in
    subst P (sym is) (aligned_by (laying c.args.objects.now c.args.bindings.now c.args.tables.now.words c.args.tables.now.stubs c.args.plan.now) c.requires.laid)
