use Rattle.std.proofs.Common.{◌≡◌, ℕ, ◌+◌, ◌-◌, ◌<◌, None}
use Rattle.c6x_exec.specs.Fits.{IsFramed}
use Rattle.c6x_machine.specs.Origin.{Origin}
use Rattle.c6x_exec.specs.Process.{areas_of, ended_of, cycles_of, limit_of, StandsFor}
use Rattle.c6x_exec.proofs.run.run_cycles.Given as goal

abbrev pub invariant-cycles : goal.invariant-cycles
invariant-cycles l = record {
  running : ended_of l.process ≡ None;
  stands : (s : Origin) (n : ℕ) → StandsFor l.fn.process l.fn.board s n → StandsFor l.process l.board s (n + l.done);
  areas : areas_of l.process ≡ areas_of l.fn.process;
  cycles : cycles_of l.process ≡ cycles_of l.fn.process + l.done;
  limit : limit_of l.process ≡ limit_of l.fn.process;
  frame : IsFramed (areas_of l.fn.process) l.fn.board l.board;
  less : l.done < l.steps;
}

abbrev pub decreases-cycles : goal.decreases-cycles
decreases-cycles l = l.steps - l.done
