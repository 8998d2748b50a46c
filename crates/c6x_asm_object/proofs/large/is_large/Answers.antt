use Rattle.std.proofs.Common.{◌∙◌}
use Rattle.c6x_asm_object.proofs.Limits.{large_past_end, large_told}
use Rattle.c6x_asm_object.proofs.Summaries.{Tells, sum_tells}
use Rattle.c6x_asm_object.proofs.large.is_large.Goals as goal

pub end-requires : goal.end-requires
end-requires c = rw c.sum-sum.ensures (sum_tells c.args.text.now c.args.sections.now c.args.outline.now c.requires.blocks).stretch

pub returns-in-None : goal.returns-in-None
returns-in-None c =
    let tells : Tells c.args.text.now c.sum-sum.result c.args.sections.now = rw c.sum-sum.ensures (sum_tells c.args.text.now c.args.sections.now c.args.outline.now c.requires.blocks) in
    large_past_end c.args.text.now c.args.sections.now c.args.symbols.now c.sum-sum.result tells c.in-None.ensures

pub returns-in-Some : goal.returns-in-Some
returns-in-Some c =
    let tells : Tells c.args.text.now c.sum-sum.result c.args.sections.now = rw c.sum-sum.ensures (sum_tells c.args.text.now c.args.sections.now c.args.outline.now c.requires.blocks) in
    c.passes.ensures
    ∙ (rw (c.in-Some.ensures, c.requires.names) (large_told c.args.text.now c.args.sections.now c.args.symbols.now c.sum-sum.result tells))
