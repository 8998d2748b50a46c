use Rattle.std.proofs.Common.{◌∙◌, ◌++◌, ℕ, List, ap, sym, subst, length, false, arith}
use Rattle.std.specs.Prelude.{Option}
use Rattle.c6x_spec.specs.Parts.{AreOn}
use Rattle.c6x_place.specs.declared.bound_process.BoundProcess.{BoundProcess}
use Rattle.c6x_place.specs.declared.seat.Seat.{Seat}
use Rattle.c6x_load.specs.Loaded.{AreAllSeated, plan_parts, seats_parts, text_parts}
use Rattle.c6x_load.proofs.Placed.{stands}
use Rattle.c6x_load.proofs.PlanWalks.{held_after}
use Rattle.c6x_load.proofs.Backs.{holds_back, seats_back}
use Rattle.c6x_spec.proofs.PartsHeld.{on_back}
use Rattle.c6x_load.proofs.plan_loading.load_parts.Goals as goal

pub load_all-requires-clause-texts : goal.load_all-requires-clause-texts
load_all-requires-clause-texts c =
    let gates = c.len.ensures.whole.below_gates in
    let st = stands false c.args.modules.now c.args.processes.now c.args.bound.now.processes c.args.board.now c.args.placement.now c.requires.bound c.len-2.ensures.kept.valid c.requires.known (omega arith) c.requires.placed in
    st.texts ∙ ap (λ (l : List (Option ℕ)). length l) (sym c.as_slice-texts.ensures)

pub load_all-requires-clause-seats : goal.load_all-requires-clause-seats
load_all-requires-clause-seats c =
    let gates = c.len.ensures.whole.below_gates in
    let st = stands false c.args.modules.now c.args.processes.now c.args.bound.now.processes c.args.board.now c.args.placement.now c.requires.bound c.len-2.ensures.kept.valid c.requires.known (omega arith) c.requires.placed in
    st.seats ∙ ap (λ (l : List Seat). length l) (sym c.as_slice-seats.ensures)

pub load_all-requires-clause-seated : goal.load_all-requires-clause-seated
load_all-requires-clause-seated c =
    let gates = c.len.ensures.whole.below_gates in
    let st = stands false c.args.modules.now c.args.processes.now c.args.bound.now.processes c.args.board.now c.args.placement.now c.requires.bound c.len-2.ensures.kept.valid c.requires.known (omega arith) c.requires.placed in
    let P : List Seat → Type 0 = λ (l : List Seat). AreAllSeated c.args.modules.now c.args.bound.now.processes l in
    let Q : List BoundProcess → Type 0 = λ (l : List BoundProcess). AreAllSeated c.args.modules.now l c.as_slice-seats.result.now in
    subst Q (sym c.as_slice-bounds.ensures) (subst P (sym c.as_slice-seats.ensures) st.seated)

pub load_all-requires-clause-room : goal.load_all-requires-clause-room
load_all-requires-clause-room c =
    let gates = c.len.ensures.whole.below_gates in
    let st = stands false c.args.modules.now c.args.processes.now c.args.bound.now.processes c.args.board.now c.args.placement.now c.requires.bound c.len-2.ensures.kept.valid c.requires.known (omega arith) c.requires.placed in
    let S : List Seat → Type 0 = λ (l : List Seat). AreOn c.args.board.now (text_parts c.args.modules.now c.args.placement.now.texts ++ seats_parts false c.args.modules.now c.args.placement.now.texts c.args.processes.now c.args.bound.now.processes l) in
    let B : List BoundProcess → Type 0 = λ (l : List BoundProcess). AreOn c.args.board.now (text_parts c.args.modules.now c.args.placement.now.texts ++ seats_parts false c.args.modules.now c.args.placement.now.texts c.args.processes.now l c.as_slice-seats.result.now) in
    let T : List (Option ℕ) → Type 0 = λ (l : List (Option ℕ)). AreOn c.args.board.now (text_parts c.args.modules.now l ++ seats_parts false c.args.modules.now l c.args.processes.now c.as_slice-bounds.result.now c.as_slice-seats.result.now) in
    subst T (sym c.as_slice-texts.ensures) (subst B (sym c.as_slice-bounds.ensures) (subst S (sym c.as_slice-seats.ensures) st.on))

pub returns-clause-start : goal.returns-clause-start
returns-clause-start c =
    let gates = c.len.ensures.whole.below_gates in
    let st = stands false c.args.modules.now c.args.processes.now c.args.bound.now.processes c.args.board.now c.args.placement.now c.requires.bound c.len-2.ensures.kept.valid c.requires.known (omega arith) c.requires.placed in
    let after = rw (c.as_slice-texts.ensures, c.as_slice-seats.ensures, c.as_slice-bounds.ensures) at c.load_all.ensures in
    held_after (plan_parts false c.args.modules.now c.args.processes.now c.args.bound.now.processes c.args.placement.now) c.args.board.now c.load_all.new.board after st.on st.apart

pub returns-clause-read_back : goal.returns-clause-read_back
returns-clause-read_back c =
    let gates = c.len.ensures.whole.below_gates in
    let st = stands false c.args.modules.now c.args.processes.now c.args.bound.now.processes c.args.board.now c.args.placement.now c.requires.bound c.len-2.ensures.kept.valid c.requires.known (omega arith) c.requires.placed in
    let after = rw (c.as_slice-texts.ensures, c.as_slice-seats.ensures, c.as_slice-bounds.ensures) at c.load_all.ensures in
    let held = held_after (plan_parts false c.args.modules.now c.args.processes.now c.args.bound.now.processes c.args.placement.now) c.args.board.now c.load_all.new.board after st.on st.apart in
    let texts = text_parts c.args.modules.now c.args.placement.now.texts in
    let seats = seats_parts false c.args.modules.now c.args.placement.now.texts c.args.processes.now c.args.bound.now.processes c.args.placement.now.seats in
    seats_back c.args.board.now c.load_all.new.board c.args.modules.now c.args.placement.now.texts c.args.processes.now c.args.bound.now.processes c.args.placement.now.seats st.each held.base c.len-2.ensures.kept.valid (on_back texts seats c.args.board.now st.on) (holds_back c.load_all.new.board texts seats held.own)
