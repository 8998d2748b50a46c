use Rattle.std.proofs.Common.{◌∷◌, []}
use Rattle.c6x_load.specs.Loaded.{seat_parts, seat_ranges, stack_part}
use Rattle.c6x_load.proofs.PlanWalks.{held_after, seat_after, stack_room}
use Rattle.c6x_spec.proofs.PartsHeld.{on_front}
use Rattle.c6x_load.proofs.seats.fill_seat.Goals as goal

pub fill_seat_ranges-requires-clause-room : goal.fill_seat_ranges-requires-clause-room
fill_seat_ranges-requires-clause-room c =
    on_front (seat_ranges c.args.big c.args.modules.now c.args.bound.now c.args.texts.now c.args.seat.now) (stack_part c.args.plan.now.stack c.args.seat.now ∷ []) c.args.board.now c.requires.room

pub zero-requires : goal.zero-requires
zero-requires c =
    stack_room (seat_ranges c.args.big c.args.modules.now c.args.bound.now c.args.texts.now c.args.seat.now) c.args.seat.now.stack c.args.plan.now.stack c.args.board.now _ c.fill_seat_ranges.ensures c.requires.room

pub returns-clause-after : goal.returns-clause-after
returns-clause-after c =
    seat_after (seat_ranges c.args.big c.args.modules.now c.args.bound.now c.args.texts.now c.args.seat.now) c.args.seat.now.stack c.args.plan.now.stack c.args.board.now c.fill_seat_ranges.new.board c.zero.new.self c.fill_seat_ranges.ensures c.zero.ensures.after

pub returns-clause-start : goal.returns-clause-start
returns-clause-start c =
    held_after (seat_parts c.args.big c.args.modules.now c.args.plan.now.stack c.args.bound.now c.args.texts.now c.args.seat.now) c.args.board.now c.zero.new.self (seat_after (seat_ranges c.args.big c.args.modules.now c.args.bound.now c.args.texts.now c.args.seat.now) c.args.seat.now.stack c.args.plan.now.stack c.args.board.now c.fill_seat_ranges.new.board c.zero.new.self c.fill_seat_ranges.ensures c.zero.ensures.after) c.requires.room
