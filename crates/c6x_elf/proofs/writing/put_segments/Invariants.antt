use Rattle.std.proofs.Common.{◌≡◌, List, ◌++◌, drop, vec_len}
use Rattle.c6x_elf_headers.specs.Laid.{InOrder, Part, laid}
use Rattle.c6x_elf.specs.Writing.{segment_parts}
use Rattle.c6x_elf.proofs.writing.put_segments.Given as goal

abbrev pub invariant-loop-k : goal.invariant-loop-k
invariant-loop-k l = record {
  laid : (rest : List Part) → l.out.items ++ laid (vec_len l.out) (segment_parts (drop l.k l.segments) (drop l.k l.spots) ++ rest)
      ≡ l.fn.out.items ++ laid (vec_len l.fn.out) (segment_parts l.segments l.spots ++ rest);
  order : InOrder (vec_len l.out) (segment_parts (drop l.k l.segments) (drop l.k l.spots));
  orders : (rest : List Part) → InOrder (vec_len l.fn.out) (segment_parts l.segments l.spots ++ rest)
      → InOrder (vec_len l.out) (segment_parts (drop l.k l.segments) (drop l.k l.spots) ++ rest);
}
