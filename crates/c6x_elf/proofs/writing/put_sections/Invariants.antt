use Rattle.std.proofs.Common.{◌≡◌, List, ◌++◌, drop, vec_len}
use Rattle.c6x_elf_headers.specs.Laid.{InOrder, Part, laid}
use Rattle.c6x_elf.specs.Writing.{section_parts}
use Rattle.c6x_elf.proofs.writing.put_sections.Given as goal

abbrev pub invariant-loop-k : goal.invariant-loop-k
invariant-loop-k l = record {
  laid : (rest : List Part) → l.out.items ++ laid (vec_len l.out) (section_parts (drop l.k l.sections) (drop l.k l.offsets) ++ rest)
      ≡ l.fn.out.items ++ laid (vec_len l.fn.out) (section_parts l.sections l.offsets ++ rest);
  order : InOrder (vec_len l.out) (section_parts (drop l.k l.sections) (drop l.k l.offsets));
  orders : (rest : List Part) → InOrder (vec_len l.fn.out) (section_parts l.sections l.offsets ++ rest)
      → InOrder (vec_len l.out) (section_parts (drop l.k l.sections) (drop l.k l.offsets) ++ rest);
}
