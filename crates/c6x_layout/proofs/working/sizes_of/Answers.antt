use Rattle.c6x_layout.proofs.SizesMade.{end_made, sizes_made, text_made}
use Rattle.c6x_layout.specs.Layouts.{Laying, laying}
use Rattle.c6x_layout.proofs.working.sizes_of.Goals as goal

pub counts_of-requires-clause-code : goal.counts_of-requires-clause-code
counts_of-requires-clause-code c =
    end_made (laying c.args.objects.now c.args.bindings.now c.args.tables.now.words c.args.tables.now.stubs c.args.plan.now) c.code_of-code.result c.args.parts.now c.len-stubs.result c.requires.parts c.len-stubs.ensures c.code_of-code.ensures.value

pub returns : goal.returns
returns c =
    let l : Laying = laying c.args.objects.now c.args.bindings.now c.args.tables.now.words c.args.tables.now.stubs c.args.plan.now in
    sizes_made l c.code_of-code.result c.text_of-text.result c.table_of-table.result c.len.result c.len-stubs.result c.from.result c.data_ends.result c.args.parts.now c.requires.parts c.code_of-code.ensures.value
    (text_made l c.in_ok-counts.counts c.text_of-text.result c.in_ok-counts.ensures.value c.text_of-text.ensures.value)
    c.table_of-table.ensures.value c.len.ensures c.len-stubs.ensures c.from.ensures c.data_ends.ensures
