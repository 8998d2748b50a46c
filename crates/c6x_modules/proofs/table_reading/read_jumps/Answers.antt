use Rattle.std.proofs.Common.{◌/◌, length, refl, ◌∙◌, rules}
use Rattle.c6x_modules.proofs.Jumps.{kept_step, left_step}
use Rattle.c6x_modules.proofs.table_reading.read_jumps.Goals as goal
use Rattle.c6x_modules.proofs.table_reading.read_jumps.Goals.{then-is_outside+in_ok-push, else-is_outside}

pub loop-number-preserved : goal.loop-number-preserved
loop-number-preserved c =
    let n = length c.args.bytes.now / 12 in
    elim c.if-is_outside.branch [
      | then-is_outside+in_ok-push w ↦ kept_step c.args.big c.args.at c.args.bytes.now c.args.from c.args.count c.loop-number.number n c.loop-number.jumps.items c.if-is_outside.jumps.items w.rela_at.result (search rules) (search rules) w.rela_at.ensures (rw w.jumps-is (w.in_ok-push.ensures.items))
          ∙ c.loop-number.invariant
      | else-is_outside w ↦ left_step c.args.big c.args.at c.args.bytes.now c.args.from c.args.count c.loop-number.number n c.loop-number.jumps.items c.if-is_outside.jumps.items (search rules) (search rules) (rw w.jumps-is refl)
          ∙ c.loop-number.invariant
    ]
