use Rattle.std.proofs.Common.{ℕ, ◌+◌, take, List}
use Rattle.std.specs.List.{fold}
use Rattle.c6x_exec.specs.Fits.{AreClean}
use Rattle.c6x_machine.specs.History.{Effect}
use Rattle.c6x_machine.specs.Origin.{Origin}
use Rattle.c6x_machine.specs.Packet.{with_row}
use Rattle.c6x_exec.specs.Sound.{IsSound, Stays}
use Rattle.c6x_exec.specs.Stands.{Tracks, HoldsAt}
use Rattle.c6x_exec.proofs.note.note_rows.Given as goal

abbrev pub invariant-loop-row : goal.invariant-loop-row
invariant-loop-row l = record {
  sound : IsSound l.p;
  stays : Stays l.fn.p l.p;
  tracks : (s : Origin) (g h : List Effect) (n : ℕ) → HoldsAt l.board s g n → AreClean s.areas l.rows → Tracks l.fn.p l.board s h n (n + 1) → Tracks l.p l.board s (fold (with_row s g n) h (take l.row-index l.rows)) n (n + 1);
}
