use Rattle.std.proofs.Common.{arith, ◌<◌, length}
use Rattle.c6x_reloc.proofs.Steps.{more_set}
use Rattle.c6x_reloc.proofs.setting.set_fields.Goals as goal

pub loop-field-preserved : goal.loop-field-preserved
loop-field-preserved c =
    let below : c.loop-field.field-index < length c.args.fields.now = omega arith in
    more_set c.args.bytes.now c.loop-field.bytes c.set_field.new.bytes c.args.fields.now c.loop-field.field-index _ below c.loop-field.invariant c.set_field.ensures.one
