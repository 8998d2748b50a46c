use Rattle.std.proofs.Common.{◌-◌, arith}
use Rattle.c6x_module.proofs.Marks.{field_marked}
use Rattle.c6x_module.proofs.overlaps.take_field.Goals as goal

pub returns-clause-marked : goal.returns-clause-marked
returns-clause-marked c = λ earlier m.
    let above = c.requires.place.above in
    field_marked c.args.range.now.vaddr c.args.table c.args.slots (c.args.field.now.place - c.args.range.now.vaddr) earlier c.args.field.now c.args.taken.now c.mark.new.taken m (omega arith) c.mark.ensures.size c.mark.ensures.marks
