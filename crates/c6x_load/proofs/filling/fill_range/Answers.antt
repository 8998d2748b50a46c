use Rattle.std.proofs.Common.{arith}
use Rattle.std.specs.Prelude.{slice_get}
use Rattle.c6x_load.specs.Values.{slot_word, target_address}
use Rattle.c6x_load.specs.Loaded.{range_bytes}
use Rattle.c6x_load.proofs.PlanWalks.{range_here, range_written, still_start}
use Rattle.c6x_load.proofs.filling.fill_range.Goals as goal

pub fill_data-requires-clause-same : goal.fill_data-requires-clause-same
fill_data-requires-clause-same c = c.requires.ready.targeted c.view-image.result.now c.view-image.ensures.value

pub fill_data-requires-clause-room : goal.fill_data-requires-clause-room
fill_data-requires-clause-room c =
    range_here c.args.big c.args.modules.now c.args.number c.view-image.result.now (slot_word c.args.modules.now c.args.list.now c.args.bases.now) (target_address c.args.modules.now c.args.list.now c.args.texts.now c.args.bases.now) c.args.targets.now c.args.at c.args.board.now c.view-image.ensures.value c.view-image.ensures.valid c.requires.room

pub fill_data-requires-clause-end : goal.fill_data-requires-clause-end
fill_data-requires-clause-end c =
    let room = range_here c.args.big c.args.modules.now c.args.number c.view-image.result.now (slot_word c.args.modules.now c.args.list.now c.args.bases.now) (target_address c.args.modules.now c.args.list.now c.args.texts.now c.args.bases.now) c.args.targets.now c.args.at c.args.board.now c.view-image.ensures.value c.view-image.ensures.valid c.requires.room in
    let within = room.within in
    let gates = c.requires.memory.below_gates in
    omega arith

pub returns-clause-after : goal.returns-clause-after
returns-clause-after c =
    let filled = rw c.as_slice.ensures.value at c.fill_data.ensures in
    range_written c.args.big c.args.modules.now c.args.number c.view-image.result.now (slot_word c.args.modules.now c.args.list.now c.args.bases.now) (target_address c.args.modules.now c.args.list.now c.args.texts.now c.args.bases.now) c.args.targets.now c.args.at c.args.board.now _ c.view-image.ensures.value filled

pub returns-clause-memory : goal.returns-clause-memory
returns-clause-memory c =
    let filled = rw c.as_slice.ensures.value at c.fill_data.ensures in
    still_start c.args.board.now _ c.args.at (range_bytes c.args.big (slice_get c.args.modules.now c.args.number) (slot_word c.args.modules.now c.args.list.now c.args.bases.now) (target_address c.args.modules.now c.args.list.now c.args.texts.now c.args.bases.now) c.args.targets.now) (range_written c.args.big c.args.modules.now c.args.number c.view-image.result.now (slot_word c.args.modules.now c.args.list.now c.args.bases.now) (target_address c.args.modules.now c.args.list.now c.args.texts.now c.args.bases.now) c.args.targets.now c.args.at c.args.board.now _ c.view-image.ensures.value filled) c.requires.room c.requires.memory
