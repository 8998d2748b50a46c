use Rattle.std.proofs.Common.{◌∙◌, sym, arith}
use Rattle.c6x_load.specs.Values.{slot_word, target_address}
use Rattle.c6x_load.proofs.PlanWalks.{ranges_step, ranges_left, ready_more}
use Rattle.c6x_load.proofs.filling.fill_ranges.Goals as goal

pub loop-position-preserved : goal.loop-position-preserved
loop-position-preserved c =
    let inv = c.loop-position.invariant in
    let row = c.as_slice.ensures ∙ c.index-rows-position.is in
    let after = rw row at c.fill_range.ensures.after in
    let word = slot_word c.args.modules.now c.args.list.now c.args.bases.now in
    let address = target_address c.args.modules.now c.args.list.now c.args.texts.now c.args.bases.now in
    record {
      rest = sym (ranges_step c.args.big c.args.modules.now word address c.args.list.now c.args.bases.now c.args.rows.now c.loop-position.position 0 0 c.index-rows-position.result c.loop-position.board c.fill_range.new.board (omega arith) (omega arith) (omega arith) after) ∙ inv.rest;
      room = ranges_left c.args.big c.args.modules.now word address c.args.list.now c.args.bases.now c.args.rows.now c.loop-position.position 0 0 c.index-rows-position.result c.loop-position.board c.fill_range.new.board (omega arith) (omega arith) (omega arith) after inv.room;
      ready = (ready_more c.args.modules.now c.args.list.now c.args.rows.now c.loop-position.position 0 c.index-rows-position.result (omega arith) (omega arith) inv.ready).1;
      memory = c.fill_range.ensures.memory;
    }
