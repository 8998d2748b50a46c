use Rattle.std.proofs.Common.{arith}
use Rattle.c6x_elf_headers.proofs.Rows.{segment_heads_near}
use Rattle.c6x_elf_headers.proofs.head_row.read_segment_heads.Goals as goal

pub returns-clause-near : goal.returns-clause-near
returns-clause-near c =
    segment_heads_near c.loop-k.heads.items c.args.big c.args.bytes.now c.args.at c.loop-k.k c.loop-k.invariant
    (λ some. omega arith) c.requires.few
