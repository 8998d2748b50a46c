use Rattle.std.proofs.Common.{◌≡◌}
use Rattle.c6x_elf_headers.specs.Heads.{section_heads}
use Rattle.c6x_elf_headers.proofs.head_row.read_section_heads.Given as goal

abbrev pub invariant-loop-k : goal.invariant-loop-k
invariant-loop-k l = l.heads.items ≡ section_heads l.big l.bytes l.at l.k
