use Rattle.c6x_layout.specs.Groups.{in_group}
use Rattle.c6x_layout.proofs.Aligned.{greatest_next}
use Rattle.c6x_layout.proofs.aligning.greatest_align.Goals as goal

pub loop-part-preserved : goal.loop-part-preserved
loop-part-preserved c =
    greatest_next (in_group c.args.group) c.loop-part.align c.args.parts.now c.loop-part.part-index _ c.with_part-align.result _ c.loop-part-test.true c.with_part-align.ensures c.loop-part.invariant
