-- The process stands for what it began as, some cycles later; the cycles that are left fall.
use Rattle.std.proofs.Common.{◌≡◌, ℕ, ◌-◌}
use Rattle.c6x_exec.specs.Fits.{IsFramed}
use Rattle.c6x_machine.specs.Origin.{Origin}
use Rattle.c6x_exec.specs.Process.{areas_of, cycles_of, limit_of, StandsFor}
use Rattle.c6x_exec.proofs.run.run_to_end.Given as goal

abbrev pub invariant-cycles : goal.invariant-cycles
invariant-cycles l = record {
  stands : (s : Origin) (n : ℕ) → StandsFor l.fn.process l.fn.board s n → (m : ℕ) × StandsFor l.process l.board s m;
  areas : areas_of l.process ≡ areas_of l.fn.process;
  frame : IsFramed (areas_of l.fn.process) l.fn.board l.board;
}

abbrev pub decreases-cycles : goal.decreases-cycles
decreases-cycles l = limit_of l.process - cycles_of l.process
