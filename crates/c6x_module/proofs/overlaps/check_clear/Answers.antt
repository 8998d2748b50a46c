use Rattle.std.proofs.Common.{◌-◌, arith}
use Rattle.c6x_module.proofs.Marks.{table_marked}
use Rattle.c6x_module.proofs.overlaps.check_clear.Goals as goal

pub check_along-requires-clause-marked : goal.check_along-requires-clause-marked
check_along-requires-clause-marked c =
    let above = c.requires.table.above in
    table_marked c.args.range.now.vaddr c.args.table c.args.slots (c.args.table - c.args.range.now.vaddr) c.args.range.now.memsz c.args.taken.now c.mark.new.taken c.requires.clear (omega arith) c.mark.ensures.size c.mark.ensures.marks
