-- What one turn of a system does.
use Rattle.std.specs.Prelude.{◌≡◌, ◌≢◌, ℕ, ◌+◌, ◌-◌, ◌<◌, ◌≤◌, length, slice_get, Some, min}
use Rattle.c6x_spec.specs.Memory.{Memory}
use Rattle.c6x_machine.specs.Machine.{alone, life}
use Rattle.c6x_machine.specs.Origin.{Origin}
use Rattle.c6x_exec.specs.Fits.{IsFramed}
use Rattle.c6x_exec.specs.Process.{areas_of, ended_of}
use Rattle.c6x_exec.specs.declared.process.Process.{Process}
use Rattle.c6x_ports.specs.Chooser.{Chooser, Chooses}
use Rattle.c6x_ports.specs.Picks.{effective_process, effective_steps}
use Rattle.c6x_ports.specs.declared.pick.Pick.{Pick}
use Rattle.c6x_sched.specs.Together.{AllStand, AreApart, AllLieOn}
use Rattle.c6x_sched.specs.declared.system.System.{System}
use Rattle.c6x_sched.specs.declared.turn.Turn.{Turn}
use Rattle.c6x_sched.specs.System.{processes_of, quantum_of}
use Rattle.c6x_sched.specs.Turns.{ready_of, moved, all_left}

-- The turn that a pick stands for: the effective process runs the effective steps, or up to its end. Whatever starts the
-- processes and the board stand for, they then stand for the same ones, the process that ran at its own count and every
-- other one where it was; and no byte changes that the process may not write.
pub record IsTurnOf (old new : System) (b c : Memory) (pick : Pick) (turn : Turn) : Type 0 where
  pub picked : turn.process ≡ effective_process (length (processes_of old)) (ready_of (processes_of old)) pick
  pub others : (k : ℕ) → k ≢ turn.process → slice_get (processes_of new) k ≡ slice_get (processes_of old) k
  pub stands : (s : ℕ → Origin) (n : ℕ → ℕ) → AreApart (processes_of old) → AllStand (processes_of old) b s n
      → AllStand (processes_of new) c s (moved n turn.process turn.cycles)
  pub count : (s : ℕ → Origin) (n : ℕ → ℕ) → AllStand (processes_of old) b s n
      → turn.cycles ≡ min (effective_steps (quantum_of old) pick) (life (s turn.process) - n turn.process)
  pub ended : (q : Process) → slice_get (processes_of new) turn.process ≡ Some q → turn.end ≡ ended_of q
  pub told : (s : ℕ → Origin) (n : ℕ → ℕ) → AllStand (processes_of old) b s n
      → turn.end ≡ (alone (s turn.process) (n turn.process + turn.cycles)).ended
  pub frame : (p : Process) → slice_get (processes_of old) turn.process ≡ Some p → IsFramed (areas_of p) b c
  pub areas : (k : ℕ) (p q : Process) → slice_get (processes_of old) k ≡ Some p → slice_get (processes_of new) k ≡ Some q
      → areas_of q ≡ areas_of p
  pub apart : AreApart (processes_of old) → AreApart (processes_of new)
  pub lie : AllLieOn c (processes_of new)
  pub within : turn.process < length (processes_of old)
  pub length : length (processes_of new) ≡ length (processes_of old)
  pub quantum : quantum_of new ≡ quantum_of old
  pub some : 1 ≤ turn.cycles
  pub less : all_left (processes_of new) + turn.cycles ≡ all_left (processes_of old)

-- A step: some process was ready, the policy was asked with those that were, and the turn is what its answer stands for.
pub record HasStepped (old new : System) (b c : Memory) (before after : Chooser) (turn : Turn) : Type 0 where
  pub pick : Pick
  pub some : 0 < length (ready_of (processes_of old))
  pub chosen : Chooses (ready_of (processes_of old)) before after pick
  pub turned : IsTurnOf old new b c pick turn
