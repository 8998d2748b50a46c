use Rattle.std.proofs.Common.{◌≡◌, ◌≤◌, map, take, drop, sum_by}
use Rattle.c6x_base.specs.declared.limits.TheConstants.{MOST_HELD_BYTES}
use Rattle.c6x_elf_headers.specs.Rules.{along_parts}
use Rattle.c6x_elf.specs.Parts.{segment_of, segment_refusal, segment_size}
use Rattle.c6x_elf.proofs.reading.segments_along.Given as goal

abbrev pub invariant-loop-head : goal.invariant-loop-head
invariant-loop-head l = record {
  rules : along_parts segment_size (segment_refusal l.bytes) l.total (drop l.head-index l.heads)
      ≡ along_parts segment_size (segment_refusal l.bytes) 0 l.heads;
  made : l.segments.items ≡ map (segment_of l.bytes) (take l.head-index l.heads);
  total : l.total ≡ sum_by segment_size (take l.head-index l.heads);
  few : l.total ≤ MOST_HELD_BYTES;
}
