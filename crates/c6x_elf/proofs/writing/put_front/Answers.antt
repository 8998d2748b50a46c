use Rattle.std.proofs.Common.{[]}
use Rattle.c6x_elf.specs.Writing.{start_of}
use Rattle.c6x_elf.proofs.Orders.{length-spots}
use Rattle.c6x_elf.proofs.writing.put_front.Goals as goal

pub put_segment_heads-requires-clause-same : goal.put_segment_heads-requires-clause-same
put_segment_heads-requires-clause-same c =
    rw (c.deref.ensures.value, c.requires.spots, c.as_slice-segments.ensures)
    (length-spots [] [] (start_of c.args.file.now) c.args.file.now.segments)
