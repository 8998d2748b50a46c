-- The board of several processes.
use Rattle.std.specs.Prelude.{◌≡◌, ℕ, List, length}
use Rattle.c6x_spec.specs.Memory.{Memory}
use Rattle.c6x_machine.specs.Origin.{Origin}
use Rattle.c6x_exec.specs.declared.process.Process.{Process}
use Rattle.c6x_sched.specs.Together.{AllStand, AreFramed}
use Rattle.c6x_cli_run.specs.TurnBoards.{boards_at}

-- A board with which all processes stand for their starts and counts, and which is as before where none of them may write,
-- is the one board that is told by its addresses.
abbrev pub BoardIsOfAll : Type 0
BoardIsOfAll =
    (ps : List Process) (s : ℕ → Origin) (n : ℕ → ℕ) (before after : Memory) → AllStand ps after s n → AreFramed ps before after
    → after ≡ boards_at s n (length ps) before
