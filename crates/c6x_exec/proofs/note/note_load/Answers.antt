use Rattle.std.proofs.Common.{◌≡◌, ◌+◌, ◌∙◌, subst, Option}
use Rattle.c6x_encoding.specs.declared.write.Write.{Write}
use Rattle.c6x_encoding.specs.Rows.{write_of_access}
use Rattle.c6x_machine.specs.History.{number_at}
use Rattle.c6x_machine.specs.Packet.{with_write}
use Rattle.c6x_exec.specs.Stands.{Tracks}
use Rattle.c6x_exec.proofs.Loads.{write_read}
use Rattle.c6x_exec.proofs.note.note_load.Goals as goal

pub returns-in-Some-clause-tracks : goal.returns-in-Some-clause-tracks
returns-in-Some-clause-tracks c s g h n holds clean k =
    let same : c.loaded-write.result ≡ write_of_access c.in-Some.access (number_at s.big s.bytes g n c.in-Some.access.address c.in-Some.access.size) = c.loaded-write.ensures.value ∙ write_read c.args.board.now s g n c.in-Some.access holds (rw c.in-Some.is at clean) in
    let P : Option Write → Type 0 = λ o. Tracks c.note_result.new.p c.args.board.now s (with_write o n h) n (n + 1) in
    rw c.in-Some.is (subst P same (c.note_result.ensures.tracks c.args.board.now s h n k))
