use Rattle.std.proofs.Common.{◌∙◌, ◌+◌, ℕ, List, ap, sym, subst, length, false, arith}
use Rattle.std.specs.Prelude.{Option}
use Rattle.c6x_place.specs.declared.bound_process.BoundProcess.{BoundProcess}
use Rattle.c6x_place.specs.declared.seat.Seat.{Seat}
use Rattle.c6x_load.proofs.Placed.{stands}
use Rattle.c6x_load.specs.ProcessLaws.{AreAllBelow}
use Rattle.c6x_load.proofs.Facts.{all_below, all_known, loaded}
use Rattle.c6x_load.proofs.loading.load.Goals as goal

pub make_processes-requires-clause-bounds : goal.make_processes-requires-clause-bounds
make_processes-requires-clause-bounds c =
    let gates = c.len.ensures.whole.below_gates in
    let st = stands false c.args.modules.now c.args.processes.now c.args.bound.now.processes c.args.board.now c.args.placement.now c.requires.bound c.len-2.ensures.kept.valid (all_known c.args.modules.now c.args.processes.now c.requires.each) (omega arith) c.requires.placed in
    st.each ∙ ap (λ (l : List BoundProcess). length l) (sym c.as_slice-bounds.ensures)

pub make_processes-requires-clause-seats : goal.make_processes-requires-clause-seats
make_processes-requires-clause-seats c =
    let gates = c.len.ensures.whole.below_gates in
    let st = stands false c.args.modules.now c.args.processes.now c.args.bound.now.processes c.args.board.now c.args.placement.now c.requires.bound c.len-2.ensures.kept.valid (all_known c.args.modules.now c.args.processes.now c.requires.each) (omega arith) c.requires.placed in
    st.seats ∙ ap (λ (l : List Seat). length l) (sym c.as_slice-seats.ensures)

pub make_processes-requires-clause-below : goal.make_processes-requires-clause-below
make_processes-requires-clause-below c =
    let gates = c.len.ensures.whole.below_gates in
    let st = stands false c.args.modules.now c.args.processes.now c.args.bound.now.processes c.args.board.now c.args.placement.now c.requires.bound c.len-2.ensures.kept.valid (all_known c.args.modules.now c.args.processes.now c.requires.each) (omega arith) c.requires.placed in
    let all = all_below c.args.modules.now c.args.processes.now c.args.bound.now.processes c.args.placement.now c.args.board.now.base (c.args.board.now.base + length c.args.board.now.bytes) c.requires.bound c.len-2.ensures.kept.valid st.each (omega arith) c.requires.placed in
    let S : List Seat → Type 0 = λ (l : List Seat). AreAllBelow c.args.modules.now c.args.placement.now.texts c.args.processes.now c.args.bound.now.processes l in
    let B : List BoundProcess → Type 0 = λ (l : List BoundProcess). AreAllBelow c.args.modules.now c.args.placement.now.texts c.args.processes.now l c.as_slice-seats.result.now in
    let T : List (Option ℕ) → Type 0 = λ (l : List (Option ℕ)). AreAllBelow c.args.modules.now l c.args.processes.now c.as_slice-bounds.result.now c.as_slice-seats.result.now in
    subst T (sym c.as_slice-texts.ensures) (subst B (sym c.as_slice-bounds.ensures) (subst S (sym c.as_slice-seats.ensures) all))

pub load_parts-requires-clause-known : goal.load_parts-requires-clause-known
load_parts-requires-clause-known c = all_known c.args.modules.now c.args.processes.now c.requires.each

pub returns-clause-stand : goal.returns-clause-stand
returns-clause-stand c =
    let gates = c.len.ensures.whole.below_gates in
    (loaded c.args.modules.now c.args.processes.now c.args.bound.now.processes c.as_slice-bounds.result.now c.args.placement.now c.as_slice-texts.result.now c.as_slice-seats.result.now c.args.board.now c.load_parts.new.board c.in_ok-made.made.items c.as_slice-bounds.ensures c.as_slice-texts.ensures c.as_slice-seats.ensures c.requires.bound c.len-2.ensures.kept.valid c.requires.each (omega arith) c.requires.placed c.in_ok-made.ensures c.load_parts.ensures.start).stand

pub returns-clause-apart : goal.returns-clause-apart
returns-clause-apart c =
    let gates = c.len.ensures.whole.below_gates in
    (loaded c.args.modules.now c.args.processes.now c.args.bound.now.processes c.as_slice-bounds.result.now c.args.placement.now c.as_slice-texts.result.now c.as_slice-seats.result.now c.args.board.now c.load_parts.new.board c.in_ok-made.made.items c.as_slice-bounds.ensures c.as_slice-texts.ensures c.as_slice-seats.ensures c.requires.bound c.len-2.ensures.kept.valid c.requires.each (omega arith) c.requires.placed c.in_ok-made.ensures c.load_parts.ensures.start).apart

pub returns-clause-lie : goal.returns-clause-lie
returns-clause-lie c =
    let gates = c.len.ensures.whole.below_gates in
    (loaded c.args.modules.now c.args.processes.now c.args.bound.now.processes c.as_slice-bounds.result.now c.args.placement.now c.as_slice-texts.result.now c.as_slice-seats.result.now c.args.board.now c.load_parts.new.board c.in_ok-made.made.items c.as_slice-bounds.ensures c.as_slice-texts.ensures c.as_slice-seats.ensures c.requires.bound c.len-2.ensures.kept.valid c.requires.each (omega arith) c.requires.placed c.in_ok-made.ensures c.load_parts.ensures.start).lie

pub returns-clause-count : goal.returns-clause-count
returns-clause-count c =
    let gates = c.len.ensures.whole.below_gates in
    (loaded c.args.modules.now c.args.processes.now c.args.bound.now.processes c.as_slice-bounds.result.now c.args.placement.now c.as_slice-texts.result.now c.as_slice-seats.result.now c.args.board.now c.load_parts.new.board c.in_ok-made.made.items c.as_slice-bounds.ensures c.as_slice-texts.ensures c.as_slice-seats.ensures c.requires.bound c.len-2.ensures.kept.valid c.requires.each (omega arith) c.requires.placed c.in_ok-made.ensures c.load_parts.ensures.start).count

pub returns-clause-fresh : goal.returns-clause-fresh
returns-clause-fresh c =
    let gates = c.len.ensures.whole.below_gates in
    (loaded c.args.modules.now c.args.processes.now c.args.bound.now.processes c.as_slice-bounds.result.now c.args.placement.now c.as_slice-texts.result.now c.as_slice-seats.result.now c.args.board.now c.load_parts.new.board c.in_ok-made.made.items c.as_slice-bounds.ensures c.as_slice-texts.ensures c.as_slice-seats.ensures c.requires.bound c.len-2.ensures.kept.valid c.requires.each (omega arith) c.requires.placed c.in_ok-made.ensures c.load_parts.ensures.start).fresh

pub returns-clause-room : goal.returns-clause-room
returns-clause-room c =
    let gates = c.len.ensures.whole.below_gates in
    let count = (loaded c.args.modules.now c.args.processes.now c.args.bound.now.processes c.as_slice-bounds.result.now c.args.placement.now c.as_slice-texts.result.now c.as_slice-seats.result.now c.args.board.now c.load_parts.new.board c.in_ok-made.made.items c.as_slice-bounds.ensures c.as_slice-texts.ensures c.as_slice-seats.ensures c.requires.bound c.len-2.ensures.kept.valid c.requires.each (omega arith) c.requires.placed c.in_ok-made.ensures c.load_parts.ensures.start).count in
    let room = c.in_ok-ready.ensures.capacity in
    omega arith
