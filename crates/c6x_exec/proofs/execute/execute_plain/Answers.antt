use Rattle.std.proofs.Common.{◌∙◌, ◌∷◌, ◌+◌, [], sym, refl, subst, List, None, Some}
use Rattle.c6x_machine.specs.History.{Effect}
use Rattle.c6x_machine.specs.declared.end.End.TheVariants.{Fault}
use Rattle.c6x_machine.specs.declared.fault_kind.FaultKind.TheVariants.{TwoWrites}
use Rattle.c6x_exec.specs.Stands.{Tracks}
use Rattle.c6x_exec.proofs.Amid.{amid}
use Rattle.c6x_exec.proofs.Executing.{found_fault, executed_stops, executed_goes}
use Rattle.c6x_exec.proofs.Plain.{fits_one, plain_fault, plain_packet, taken_ends, free_ends}
use Rattle.c6x_exec.proofs.execute.execute_plain.Goals as goal

pub returns-then-is_taken-clause-comes : goal.returns-then-is_taken-clause-comes
returns-then-is_taken-clause-comes c b s h n k =
    rw (executed_stops s h n c.args.at c.args.next (c.args.row.now ∷ []) (Fault TwoWrites c.args.at)
    (found_fault c.args.p.now b s h n c.args.at s.areas (c.args.row.now ∷ []) (fits_one _ c.requires.fits) refl k (Some (Fault TwoWrites c.args.at))
    (sym (plain_fault s.areas _ c.args.p.now.cycles c.args.at c.args.row.now c.requires.no_access c.requires.no_update
    ∙ taken_ends _ c.args.at (sym c.is_taken.ensures ∙ c.if-is_taken.true)))))
    (refl, amid _ _ s h n k)

pub returns-clause-comes : goal.returns-clause-comes
returns-clause-comes c b s h n k =
    let P : List Effect → Type 0 = λ all. Tracks c.note_target.new.p b s all n (n + 1) in
    rw (executed_goes s h n c.args.at c.args.next (c.args.row.now ∷ [])
    (found_fault c.args.p.now b s h n c.args.at s.areas (c.args.row.now ∷ []) (fits_one _ c.requires.fits) refl k None
    (sym (plain_fault s.areas _ c.args.p.now.cycles c.args.at c.args.row.now c.requires.no_access c.requires.no_update
    ∙ free_ends _ c.args.at (sym c.is_taken.ensures ∙ c.if-is_taken.false)))))
    (subst P (sym (plain_packet s h n c.args.next c.args.row.now c.requires.no_access c.requires.no_update))
    (c.note_target.ensures.tracks b s _ n
    (c.note_result.ensures.tracks b s _ n
    (c.note_issue.ensures.tracks b s h n (amid _ _ s h n k)))))
