use Rattle.std.proofs.Common.{false, ℕ, ◌+◌, take, List}
use Rattle.std.specs.List.{fold}
use Rattle.c6x_access.specs.declared.area.Area.{Area}
use Rattle.c6x_exec.specs.declared.context.Context.{Context}
use Rattle.c6x_board.specs.Lane.{LieOn}
use Rattle.c6x_exec.specs.Fits.{AreClean, IsFramed, IsSized}
use Rattle.c6x_machine.specs.History.{Effect}
use Rattle.c6x_machine.specs.Origin.{Origin}
use Rattle.c6x_machine.specs.Packet.{with_stored}
use Rattle.c6x_exec.specs.Stands.{Tracks}
use Rattle.c6x_exec.proofs.note.store_rows.Given as goal

abbrev pub invariant-loop-row : goal.invariant-loop-row
invariant-loop-row l = record {
  sized : IsSized l.fn.board l.board;
  tracks : (p : Context) (s : Origin) (h : List Effect) (n : ℕ) → LieOn l.fn.board s.areas → Tracks p l.fn.board s h n (n + 1) → Tracks p l.board s (fold (with_stored false n) h (take l.row-index l.rows)) n (n + 1);
  frame : (areas : List Area) → AreClean areas l.rows → IsFramed areas l.fn.board l.board;
}
