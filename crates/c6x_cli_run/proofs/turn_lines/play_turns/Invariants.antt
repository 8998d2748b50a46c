-- Where the turns so far have led, and what was told of them.
use Rattle.std.proofs.Common.{◌≡◌, ◌≤◌, ℕ, length, Some}
use Rattle.std.specs.Prelude.{slice_get}
use Rattle.c6x_machine.specs.Origin.{Origin}
use Rattle.c6x_exec.specs.Process.{areas_of}
use Rattle.c6x_exec.specs.declared.process.Process.{Process}
use Rattle.c6x_sched.specs.Together.{AllStand, AreApart, AllLieOn, AreFramed}
use Rattle.c6x_sched.specs.Play.{game_of}
use Rattle.c6x_sched.specs.System.{processes_of, quantum_of}
use Rattle.c6x_sched.specs.Turns.{all_left, ready_of}
use Rattle.c6x_sched.proofs.Plays.{IsAsked}
use Rattle.c6x_cli_run.specs.Told.{TellsOn}
use Rattle.c6x_cli_run.specs.TurnLines.{names_of}
use Rattle.c6x_cli_run.proofs.turn_lines.play_turns.Given as goal

abbrev pub invariant-turns : goal.invariant-turns
invariant-turns g l =
    let now = (goal.Policy-dyn g (l.policy.vtable, l.policy.value)).chooser l.policy.value in
    let was = (goal.Policy-dyn g (l.fn.policy.vtable, l.fn.policy.value)).chooser l.fn.policy.value in
    record {
      lie : AllLieOn l.board (processes_of l.system);
      kind : now.kind ≡ was.kind;
      quantum : quantum_of l.system ≡ quantum_of l.fn.system;
      count : length (processes_of l.system) ≡ length (processes_of l.fn.system);
      apart : AreApart (processes_of l.fn.system) → AreApart (processes_of l.system);
      areas : (k : ℕ) (p q : Process) → slice_get (processes_of l.fn.system) k ≡ Some p → slice_get (processes_of l.system) k ≡ Some q → areas_of q ≡ areas_of p;
      frame : AreFramed (processes_of l.fn.system) l.fn.board l.board;
      asked : IsAsked (ready_of (processes_of l.fn.system)) (ready_of (processes_of l.system)) was.answers now.answers (l.policy ≡ l.fn.policy);
      tells : (s : ℕ → Origin) (n : ℕ → ℕ) → AreApart (processes_of l.fn.system) → AllStand (processes_of l.fn.system) l.fn.board s n
          → TellsOn (names_of l.plans) (game_of (processes_of l.fn.system) (quantum_of l.fn.system) was s n) (processes_of l.system) l.board now.state (g.O.Sink.seen l.fn.out).bytes (g.O.Sink.seen l.out).bytes;
      kept : (g.O.Sink.seen l.fn.out).faults ≤ (g.O.Sink.seen l.out).faults;
    }

abbrev pub decreases-turns : goal.decreases-turns
decreases-turns g l = all_left (processes_of l.system)
