use Rattle.std.proofs.Common.{arith}
use Rattle.c6x_load.specs.Values.{slot_word, target_address}
use Rattle.c6x_load.proofs.Ranges.{data_written, still_on, table_on}
use Rattle.c6x_load.proofs.range.fill_data.Goals as goal

-- the table and the fields lie on the memory once the segment is written
pub fill_table-requires-clause-room : goal.fill_table-requires-clause-room
fill_table-requires-clause-room c =
    let above = c.requires.valid.table.inside.above in
    let within = c.requires.valid.table.inside.within in
    let low = c.requires.room.above in
    let high = c.requires.room.within in
    still_on _ _ _ _ c.requires.valid.memory c.fill_segment.ensures c.requires.room _ _ (record { above = omega arith; within = omega arith })

pub fill_fields-requires-clause-room : goal.fill_fields-requires-clause-room
fill_fields-requires-clause-room c =
    let above = c.requires.valid.table.inside.above in
    let within = c.requires.valid.table.inside.within in
    let low = c.requires.room.above in
    let high = c.requires.room.within in
    let still = still_on _ _ _ _ c.requires.valid.memory c.fill_segment.ensures c.requires.room in
    table_on c.args.big c.args.image.now (slot_word c.args.modules.now c.args.list.now c.args.bases.now) _ _ _ c.fill_table.ensures (still _ _ (record { above = omega arith; within = omega arith })) _ _ (still _ _ c.requires.room)

pub returns : goal.returns
returns c =
    let fields = rw c.as_slice.ensures at c.fill_fields.ensures in
    data_written c.args.big c.args.image.now (slot_word c.args.modules.now c.args.list.now c.args.bases.now) (target_address c.args.modules.now c.args.list.now c.args.texts.now c.args.bases.now) c.args.targets.now c.args.at _ _ _ _ c.requires.valid c.requires.room c.fill_segment.ensures c.fill_table.ensures fields
