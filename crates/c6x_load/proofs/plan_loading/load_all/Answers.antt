use Rattle.std.proofs.Common.{◌∙◌, ap, sym, false, subst}
use Rattle.c6x_spec.specs.Memory.{Memory}
use Rattle.c6x_spec.specs.Parts.{AreOn, filled_with}
use Rattle.c6x_spec.proofs.PartsHeld.{filled_append, filled_on, on_back, on_front}
use Rattle.c6x_load.specs.Loaded.{seats_parts, text_parts}
use Rattle.c6x_load.proofs.plan_loading.load_all.Goals as goal

pub load_texts-requires-clause-room : goal.load_texts-requires-clause-room
load_texts-requires-clause-room c =
    on_front (text_parts c.args.modules.now c.args.texts.now) (seats_parts false c.args.modules.now c.args.texts.now c.args.processes.now c.args.bounds.now c.args.seats.now) c.args.board.now c.requires.room

pub fill_seats-requires-clause-room : goal.fill_seats-requires-clause-room
fill_seats-requires-clause-room c =
    let texts = text_parts c.args.modules.now c.args.texts.now in
    let seats = seats_parts false c.args.modules.now c.args.texts.now c.args.processes.now c.args.bounds.now c.args.seats.now in
    let P : Memory → Type 0 = λ (m : Memory). AreOn m seats in
    subst P (sym c.load_texts.ensures) (filled_on texts seats c.args.board.now (on_front texts seats c.args.board.now c.requires.room) (on_back texts seats c.args.board.now c.requires.room))

pub returns : goal.returns
returns c =
    let texts = text_parts c.args.modules.now c.args.texts.now in
    let seats = seats_parts false c.args.modules.now c.args.texts.now c.args.processes.now c.args.bounds.now c.args.seats.now in
    c.fill_seats.ensures ∙ ap (filled_with seats) c.load_texts.ensures ∙ sym (filled_append texts seats c.args.board.now)
