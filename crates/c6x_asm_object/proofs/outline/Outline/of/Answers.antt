use Rattle.std.proofs.Common.{arith}
use Rattle.c6x_asm_object.proofs.Blocks.{blocks_more}
use Rattle.c6x_asm_object.proofs.outline.Outline.of.Goals as goal

pub loop-place-preserved : goal.loop-place-preserved
loop-place-preserved c =
    rw c.in_ok-refresh.ensures
    (blocks_more c.args.text.now c.args.sections.now c.loop-place.outline c.loop-place.place (omega (arith, c.loop-place-test.true)) c.loop-place.invariant)
