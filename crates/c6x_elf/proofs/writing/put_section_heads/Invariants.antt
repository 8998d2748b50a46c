use Rattle.std.proofs.Common.{◌≡◌, ◌+◌, ◌*◌, ◌++◌, false, drop, vec_len}
use Rattle.c6x_elf_headers.specs.HeadRows.{SectionsFit, section_rows}
use Rattle.c6x_elf.specs.Writing.{section_heads_at}
use Rattle.c6x_elf.proofs.writing.put_section_heads.Given as goal

abbrev pub invariant-loop-k : goal.invariant-loop-k
invariant-loop-k l = record {
  rows : l.out.items ++ section_rows false (section_heads_at l.at l.k (drop l.k l.sections) (drop l.k l.offsets))
      ≡ l.fn.out.items ++ section_rows false (section_heads_at l.at 0 l.sections l.offsets);
  end : vec_len l.out ≡ vec_len l.fn.out + 40 * l.k;
  fit : SectionsFit (section_heads_at l.at l.k (drop l.k l.sections) (drop l.k l.offsets)) → SectionsFit (section_heads_at l.at 0 l.sections l.offsets);
}
