use Rattle.std.proofs.Common.{arith, refl, ◌<◌, length}
use Rattle.c6x_layout.proofs.SharedCounts.{shared_next}
use Rattle.c6x_layout.proofs.strings.shared_names.Goals as goal

pub loop-number-preserved : goal.loop-number-preserved
loop-number-preserved c =
    let below : c.loop-number.number < length c.args.bindings.now = omega (arith, c.loop-number-test.true, c.len-number-end.ensures.value) in
    record {
      to = rw c.shared_with-shared.ensures.value (shared_next c.args.exported c.args.bindings.now c.loop-number.number c.loop-number.shared _ below refl c.loop-number.invariant.to);
      count = omega (arith, c.shared_with-shared.ensures.count, c.loop-number.invariant.count);
      bytes = omega (arith, c.shared_with-shared.ensures.bytes, c.loop-number.invariant.bytes);
    }
