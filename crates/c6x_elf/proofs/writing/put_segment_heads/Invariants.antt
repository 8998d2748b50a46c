use Rattle.std.proofs.Common.{◌≡◌, ◌+◌, ◌*◌, ◌++◌, false, drop, vec_len}
use Rattle.c6x_elf_headers.specs.HeadRows.{SegmentsFit, segment_rows}
use Rattle.c6x_elf.specs.Writing.{AreWithin, segment_heads_at}
use Rattle.c6x_elf.proofs.writing.put_segment_heads.Given as goal

abbrev pub invariant-loop-k : goal.invariant-loop-k
invariant-loop-k l = record {
  rows : l.out.items ++ segment_rows false (segment_heads_at l.at l.k (drop l.k l.segments) (drop l.k l.spots))
      ≡ l.fn.out.items ++ segment_rows false (segment_heads_at l.at 0 l.segments l.spots);
  end : vec_len l.out ≡ vec_len l.fn.out + 32 * l.k;
  fit : SegmentsFit (segment_heads_at l.at l.k (drop l.k l.segments) (drop l.k l.spots)) → SegmentsFit (segment_heads_at l.at 0 l.segments l.spots);
  within : AreWithin (drop l.k l.segments) (drop l.k l.spots);
}
