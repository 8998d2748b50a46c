use Rattle.std.proofs.Common.{◌∷◌, ◌+◌, fold, subst, sym, Bool}
use Rattle.c6x_machine.specs.History.{Issues}
use Rattle.c6x_machine.specs.Packet.{with_packet, with_row, with_stored}
use Rattle.c6x_exec.specs.Stands.{Tracks}
use Rattle.c6x_exec.proofs.Amid.{amid, holds_now}
use Rattle.c6x_exec.proofs.note.note.Goals as goal

pub returns-clause-tracks : goal.returns-clause-tracks
unfolding with_packet
returns-clause-tracks c s h n lie clean k =
    let P : Bool → Type 0 = λ big. Tracks c.note_rows.new.p c.store_rows.new.board s (fold (with_stored big n) (fold (with_row s h n) (Issues n c.args.next c.longest_wait-wait.result ∷ h) c.args.rows.now) c.args.rows.now) n (n + 1) in
    rw (← c.longest_wait-wait.ensures)
    (subst P (sym k.order)
    (c.store_rows.ensures.tracks _ s _ n lie
    (c.note_rows.ensures.tracks s h _ n (holds_now _ _ s h n k) clean
    (c.note_issue.ensures.tracks c.args.board.now s h n (amid _ _ s h n k)))))
