use Rattle.std.proofs.Common.{false, arith}
use Rattle.c6x_elf.proofs.Puts.{segment_fit_step, segment_rows_step, within_here}
use Rattle.c6x_elf.proofs.Spots.{within_more}
use Rattle.c6x_elf.proofs.writing.put_segment_heads.Goals as goal

pub loop-k-preserved : goal.loop-k-preserved
loop-k-preserved c = record {
  rows = segment_rows_step c.args.at c.args.segments.now c.args.spots.now c.loop-k.k c.index-segments-k.result (record { at = 0; fresh = false })
      c.segment_head-head.result c.loop-k.out.items c.put_segment_head.new.out.items _ (omega arith) (omega arith) c.index-segments-k.is
      c.segment_head-head.ensures c.in_ok-put_segment_head.ensures.row c.loop-k.invariant.rows;
  end = omega (arith, c.in_ok-put_segment_head.ensures.end);
  fit = segment_fit_step c.args.at c.args.segments.now c.args.spots.now c.loop-k.k c.index-segments-k.result (record { at = 0; fresh = false })
      c.segment_head-head.result _ (omega arith) (omega arith) c.index-segments-k.is
      c.segment_head-head.ensures c.in_ok-put_segment_head.ensures.fit c.loop-k.invariant.fit;
  within = within_more c.args.segments.now c.args.spots.now c.loop-k.k c.index-segments-k.result (record { at = 0; fresh = false }) (omega arith) (omega arith)
      c.loop-k.invariant.within;
}

pub segment_head-head-requires : goal.segment_head-head-requires
segment_head-head-requires c =
    let fits = within_here c.args.segments.now c.args.spots.now c.loop-k.k c.index-segments-k.result (record { at = 0; fresh = false })
    (omega arith) (omega arith) c.index-segments-k.is c.loop-k.invariant.within in
    omega arith
