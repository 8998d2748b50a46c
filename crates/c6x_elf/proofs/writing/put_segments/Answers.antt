use Rattle.std.proofs.Common.{false, arith}
use Rattle.c6x_elf.proofs.Puts.{segment_laid_step, segment_order_here, segment_order_step, segment_orders_step}
use Rattle.c6x_elf.proofs.writing.put_segments.Goals as goal

pub put_segment-requires : goal.put_segment-requires
put_segment-requires c =
    segment_order_here c.args.segments.now c.args.spots.now c.loop-k.k c.index-segments-k.result (record { at = 0; fresh = false }) _ (omega arith) (omega arith) c.index-segments-k.is
    c.loop-k.invariant.order

pub loop-k-preserved : goal.loop-k-preserved
loop-k-preserved c = record {
  laid = λ rest.
      segment_laid_step c.args.segments.now c.args.spots.now c.loop-k.k c.index-segments-k.result (record { at = 0; fresh = false }) c.loop-k.out.items c.put_segment.new.out.items _ _ _
      rest (omega arith) (omega arith) c.index-segments-k.is c.in_ok-put_segment.ensures.laid (c.loop-k.invariant.laid rest);
  order = segment_order_step c.args.segments.now c.args.spots.now c.loop-k.k c.index-segments-k.result (record { at = 0; fresh = false }) _ _ (omega arith) (omega arith) c.index-segments-k.is
      c.in_ok-put_segment.ensures.order c.loop-k.invariant.order;
  orders = λ rest order.
      segment_orders_step c.args.segments.now c.args.spots.now c.loop-k.k c.index-segments-k.result (record { at = 0; fresh = false }) _ _ rest (omega arith) (omega arith) c.index-segments-k.is
      c.in_ok-put_segment.ensures.order (c.loop-k.invariant.orders rest order);
}
