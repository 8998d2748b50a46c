use Rattle.std.proofs.Common.{sym}
use Rattle.c6x_elf.specs.Writing.{segments_end}
use Rattle.c6x_elf.proofs.Orders.{length-offsets, table_fits}
use Rattle.c6x_elf.proofs.writing.put_table.Goals as goal

pub put_section_heads-requires-clause-same : goal.put_section_heads-requires-clause-same
put_section_heads-requires-clause-same c =
    rw (c.deref.ensures.value, c.requires.offsets, c.as_slice-sections.ensures)
    (length-offsets (segments_end c.args.file.now) c.args.file.now.sections)

pub put_section_heads-requires-clause-near : goal.put_section_heads-requires-clause-near
put_section_heads-requires-clause-near c =
    let some = rw c.as_slice-sections.ensures at c.if-is_empty.ensures in
    rw (c.requires.table, c.as_slice-sections.ensures) (table_fits c.args.file.now (sym some) c.requires.small)
