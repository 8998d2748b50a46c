use Rattle.std.proofs.Common.{sym, refl, subst, List, None, Some}
use Rattle.c6x_access.specs.declared.area.Area.{Area}
use Rattle.c6x_board.specs.Lane.{LieOn}
use Rattle.c6x_exec.specs.Fits.{AreClean}
use Rattle.c6x_exec.proofs.Amid.{amid}
use Rattle.c6x_exec.proofs.Executing.{found_fault, executed_stops, executed_goes}
use Rattle.c6x_exec.proofs.Firsts.{clean_rows}
use Rattle.c6x_exec.proofs.Loads.{rows_on, framed_same}
use Rattle.c6x_exec.proofs.execute.execute_rows.Goals as goal

pub note-requires-clause-on : goal.note-requires-clause-on
note-requires-clause-on c = rows_on _ c.args.map.now c.args.rows.now c.requires.fits c.requires.on_board (clean_rows _ _ _ _ _ _ (sym c.in-None.ensures))

pub returns-in-Some-clause-comes : goal.returns-in-Some-clause-comes
returns-in-Some-clause-comes c s h n areas k =
    rw (executed_stops s h n c.args.at c.args.next c.args.rows.now c.in-Some.end (found_fault c.args.p.now _ s h n c.args.at c.args.map.now c.args.rows.now c.requires.fits areas k (Some c.in-Some.end) c.in-Some.ensures))
    (refl, amid _ _ s h n k)

pub returns-in-None-clause-comes : goal.returns-in-None-clause-comes
returns-in-None-clause-comes c s h n areas k =
    let P : List Area → Type 0 = λ all. AreClean all c.args.rows.now in
    let Q : List Area → Type 0 = λ all. LieOn c.args.board.now all in
    rw (executed_goes s h n c.args.at c.args.next c.args.rows.now (found_fault c.args.p.now _ s h n c.args.at c.args.map.now c.args.rows.now c.requires.fits areas k None c.in-None.ensures))
    (c.note.ensures.tracks s h n (subst Q (sym areas) c.requires.on_board) (subst P (sym areas) (clean_rows _ _ _ _ _ _ (sym c.in-None.ensures))) k)

pub returns-in-Some-clause-frame : goal.returns-in-Some-clause-frame
returns-in-Some-clause-frame c = framed_same _ _

pub returns-in-None-clause-frame : goal.returns-in-None-clause-frame
returns-in-None-clause-frame c = c.note.ensures.frame c.args.map.now (clean_rows _ _ _ _ _ _ (sym c.in-None.ensures))
