use Rattle.std.proofs.Common.{◌∙◌, sym, false, arith}
use Rattle.c6x_load.proofs.SeatWalks.{one_after, one_room, one_seated, seated_more, seats_left, seats_step}
use Rattle.c6x_load.proofs.plan_loading.fill_seats.Goals as goal

pub fill_seat-requires : goal.fill_seat-requires
fill_seat-requires c =
    let inv = c.loop-process.invariant in
    let i = c.loop-process.process in
    record {
      seated = one_seated c.args.modules.now c.args.bounds.now c.args.seats.now i c.index-bounds-process.result c.index-seats-process.result c.index-bounds-process.is c.index-seats-process.is (omega arith) (omega arith) inv.seated;
      room = one_room false c.args.modules.now c.args.texts.now c.args.processes.now c.args.bounds.now c.args.seats.now i c.index-processes-process.result c.index-bounds-process.result c.index-seats-process.result c.loop-process.board c.index-processes-process.is c.index-bounds-process.is c.index-seats-process.is (omega arith) (omega arith) (omega arith) inv.room;
    }

pub loop-process-preserved : goal.loop-process-preserved
loop-process-preserved c =
    let inv = c.loop-process.invariant in
    let i = c.loop-process.process in
    let after = one_after false c.args.modules.now c.args.texts.now c.args.processes.now c.args.bounds.now c.args.seats.now i c.index-processes-process.result c.index-bounds-process.result c.index-seats-process.result c.loop-process.board c.fill_seat.new.board c.index-processes-process.is c.index-bounds-process.is c.index-seats-process.is c.fill_seat.ensures.after in
    record {
      rest = sym (seats_step false c.args.modules.now c.args.texts.now c.args.processes.now c.args.bounds.now c.args.seats.now i c.index-processes-process.result c.index-bounds-process.result c.index-seats-process.result c.loop-process.board c.fill_seat.new.board (omega arith) (omega arith) (omega arith) after) ∙ inv.rest;
      room = seats_left false c.args.modules.now c.args.texts.now c.args.processes.now c.args.bounds.now c.args.seats.now i c.index-processes-process.result c.index-bounds-process.result c.index-seats-process.result c.loop-process.board c.fill_seat.new.board (omega arith) (omega arith) (omega arith) after inv.room;
      seated = (seated_more c.args.modules.now c.args.bounds.now c.args.seats.now i c.index-bounds-process.result c.index-seats-process.result (omega arith) (omega arith) inv.seated).1;
    }
