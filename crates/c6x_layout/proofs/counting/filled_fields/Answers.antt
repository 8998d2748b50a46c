use Rattle.std.proofs.Common.{arith}
use Rattle.c6x_layout.specs.Dynamics.{file_filled}
use Rattle.c6x_layout.proofs.Counted.{numbered_next}
use Rattle.c6x_layout.proofs.counting.filled_fields.Goals as goal

pub loop-number-preserved : goal.loop-number-preserved
loop-number-preserved c = record {
  count =
      numbered_next (file_filled c.args.objects.now c.args.bindings.now) c.args.objects.now c.loop-number.number c.index-objects-number.result c.loop-number.count c.in_ok-count.field-0 c.loop-number-test.true c.index-objects-number.is
      (c.in_ok-count.ensures.count c.args.objects.now c.requires.regions)
      c.loop-number.invariant.count;
  few = omega (arith, c.in_ok-count.ensures.few, c.loop-number.invariant.few);
}
