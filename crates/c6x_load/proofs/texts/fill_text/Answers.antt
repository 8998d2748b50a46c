use Rattle.std.proofs.Common.{arith}
use Rattle.c6x_load.specs.Values.{filled}
use Rattle.c6x_load.proofs.PlanWalks.{text_room, still_start}
use Rattle.c6x_load.proofs.texts.fill_text.Goals as goal

pub fill_segment-requires-clause-room : goal.fill_segment-requires-clause-room
fill_segment-requires-clause-room c = text_room c.args.image.now c.args.text c.in-Some.at c.args.board.now c.in-Some.is c.requires.valid c.requires.room

pub fill_segment-requires-clause-below : goal.fill_segment-requires-clause-below
fill_segment-requires-clause-below c =
    let room = text_room c.args.image.now c.args.text c.in-Some.at c.args.board.now c.in-Some.is c.requires.valid c.requires.room in
    let within = room.within in
    let gates = c.requires.memory.below_gates in
    omega arith

pub returns-in-Some-clause-memory : goal.returns-in-Some-clause-memory
returns-in-Some-clause-memory c =
    let on = rw c.in-Some.is at c.requires.room in
    still_start c.args.board.now _ c.in-Some.at (filled c.args.image.now.text) c.fill_segment.ensures on.0 c.requires.memory
