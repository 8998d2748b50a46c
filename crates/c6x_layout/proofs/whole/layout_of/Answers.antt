use Rattle.std.proofs.Common.{arith, rules, ◌≡◌, ◌∙◌}
use Rattle.c6x_layout.proofs.Finished.{addresses_made, chained_made, layout_made, order_made, refusal_made}
use Rattle.c6x_layout.specs.Layouts.{Laying, laying, size_refusal}
use Rattle.c6x_layout.specs.Sizes.{sizes_refusal}
use Rattle.c6x_layout.proofs.whole.layout_of.Goals as goal

pub check_sizes-requires-clause-order : goal.check_sizes-requires-clause-order
check_sizes-requires-clause-order c =
    order_made (laying c.args.objects.now c.args.bindings.now c.args.tables.now.words c.args.tables.now.stubs c.args.plan.now) c.in_ok-sizes.sizes c.in_ok-sizes.ensures

pub check_sizes-requires-clause-words : goal.check_sizes-requires-clause-words
check_sizes-requires-clause-words c = omega (arith, c.len-words.ensures, c.requires.words)

pub check_sizes-requires-clause-stubs : goal.check_sizes-requires-clause-stubs
check_sizes-requires-clause-stubs c = omega (arith, c.len-stubs.ensures, c.requires.stubs)

pub returns-in_err-check_sizes-clause-passes : goal.returns-in_err-check_sizes-clause-passes
returns-in_err-check_sizes-clause-passes c =
    let l : Laying = laying c.args.objects.now c.args.bindings.now c.args.tables.now.words c.args.tables.now.stubs c.args.plan.now in
    let whole : size_refusal l ≡ sizes_refusal c.in_ok-sizes.sizes c.args.plan.now.table c.len-words.result c.len-stubs.result =
    refusal_made l c.in_ok-sizes.sizes c.len-words.result c.len-stubs.result c.in_ok-sizes.ensures c.len-words.ensures c.len-stubs.ensures in
    rw whole (search rules)

pub layout_by-requires-clause-addresses : goal.layout_by-requires-clause-addresses
layout_by-requires-clause-addresses c =
    addresses_made (laying c.args.objects.now c.args.bindings.now c.args.tables.now.words c.args.tables.now.stubs c.args.plan.now) c.in_ok-sizes.sizes c.in_ok-sizes.ensures c.in_ok-check_sizes.ensures.text c.in_ok-check_sizes.ensures.range

pub layout_by-requires-clause-chained : goal.layout_by-requires-clause-chained
layout_by-requires-clause-chained c =
    chained_made (laying c.args.objects.now c.args.bindings.now c.args.tables.now.words c.args.tables.now.stubs c.args.plan.now) c.in_ok-sizes.sizes c.args.parts.now c.in_ok-sizes.ensures c.requires.parts

pub returns-clause-passes : goal.returns-clause-passes
returns-clause-passes c =
    refusal_made (laying c.args.objects.now c.args.bindings.now c.args.tables.now.words c.args.tables.now.stubs c.args.plan.now) c.in_ok-sizes.sizes c.len-words.result c.len-stubs.result c.in_ok-sizes.ensures c.len-words.ensures c.len-stubs.ensures
    ∙ c.in_ok-check_sizes.ensures.passes

pub returns-clause-value : goal.returns-clause-value
returns-clause-value c =
    layout_made (laying c.args.objects.now c.args.bindings.now c.args.tables.now.words c.args.tables.now.stubs c.args.plan.now) c.in_ok-sizes.sizes c.args.parts.now c.in_ok-layout.layout c.in_ok-sizes.ensures c.requires.parts c.in_ok-layout.ensures
