-- Where the turns so far have led.
use Rattle.std.proofs.Common.{◌≡◌, ℕ, length, Some}
use Rattle.std.specs.Prelude.{slice_get}
use Rattle.c6x_machine.specs.Origin.{Origin}
use Rattle.c6x_exec.specs.Process.{areas_of}
use Rattle.c6x_exec.specs.declared.process.Process.{Process}
use Rattle.c6x_sched.specs.Together.{AllStand, AreApart, AllLieOn, AreFramed}
use Rattle.c6x_sched.specs.Play.{PlaysOn, game_of}
use Rattle.c6x_sched.specs.System.{processes_of, quantum_of}
use Rattle.c6x_sched.specs.Turns.{ready_of, all_left}
use Rattle.c6x_sched.proofs.Plays.{IsAsked}
use Rattle.c6x_sched.proofs.system.System.run.Given as goal

abbrev pub invariant-turns : goal.invariant-turns
invariant-turns g l =
    let now = (goal.Policy-dyn g (l.policy.vtable, l.policy.value)).chooser l.policy.value in
    let was = (goal.Policy-dyn g (l.fn.policy.vtable, l.fn.policy.value)).chooser l.fn.policy.value in
    record {
      lie : AllLieOn l.board (processes_of l.self);
      kind : now.kind ≡ was.kind;
      quantum : quantum_of l.self ≡ quantum_of l.fn.self;
      count : length (processes_of l.self) ≡ length (processes_of l.fn.self);
      apart : AreApart (processes_of l.fn.self) → AreApart (processes_of l.self);
      areas : (k : ℕ) (p q : Process) → slice_get (processes_of l.fn.self) k ≡ Some p → slice_get (processes_of l.self) k ≡ Some q → areas_of q ≡ areas_of p;
      frame : AreFramed (processes_of l.fn.self) l.fn.board l.board;
      asked : IsAsked (ready_of (processes_of l.fn.self)) (ready_of (processes_of l.self)) was.answers now.answers (l.policy ≡ l.fn.policy);
      plays : (s : ℕ → Origin) (n : ℕ → ℕ) → AreApart (processes_of l.fn.self) → AllStand (processes_of l.fn.self) l.fn.board s n
          → PlaysOn (game_of (processes_of l.fn.self) (quantum_of l.fn.self) was s n) (processes_of l.self) l.board now.state;
    }

abbrev pub decreases-turns : goal.decreases-turns
decreases-turns g l = all_left (processes_of l.self)
