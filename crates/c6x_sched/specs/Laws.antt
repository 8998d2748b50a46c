-- Facts on ready processes and on plays.
use Rattle.std.specs.Prelude.{◌≡◌, ◌↔◌, ℕ, List, length, slice_get, Some, None, IsTrue}
use Rattle.std.specs.List.{Contains}
use Rattle.c6x_spec.specs.Memory.{Memory}
use Rattle.c6x_exec.specs.Process.{ended_of}
use Rattle.c6x_exec.specs.declared.process.Process.{Process}
use Rattle.c6x_ports.specs.Picks.{is_named}
use Rattle.c6x_sched.specs.Left.{whole_play, left}
use Rattle.c6x_sched.specs.Play.{Game, Played, IsPlay, IsOver, HasPlayed}
use Rattle.c6x_sched.specs.Turns.{ready_of}

-- The process with this number is there and has not ended.
pub record IsRunning (ps : List Process) (number : ℕ) : Type 0 where
  pub process : Process
  pub is : slice_get ps number ≡ Some process
  pub running : ended_of process ≡ None

abbrev pub ReadyAreThoseThatRun : Type 0
ReadyAreThoseThatRun = (ps : List Process) (number : ℕ) → (Contains (ready_of ps) number) ↔ IsRunning ps number

-- Of as many turns there is one play,
abbrev pub OnePlayOfALength : Type 0
OnePlayOfALength =
    (g : Game) (a b : List Played) → IsTrue (is_named g.kind) → IsPlay g a → IsPlay g b → length a ≡ length b → a ≡ b

-- and up to the end of every process there is one play.
abbrev pub OneWholePlay : Type 0
OneWholePlay =
    (g : Game) (a b : List Played) → IsTrue (is_named g.kind) → IsPlay g a → IsOver g a → IsPlay g b → IsOver g b → a ≡ b

-- It is the one that is told by the starts and the policy,
abbrev pub WholePlayIsTold : Type 0
WholePlayIsTold =
    (g : Game) (play : List Played) → IsTrue (is_named g.kind) → IsPlay g play → IsOver g play → play ≡ whole_play g

-- and so is the state in which the policy is then.
abbrev pub StateIsLeft : Type 0
StateIsLeft =
    (g : Game) (ps : List Process) (b : Memory) (state : List ℕ) → IsTrue (is_named g.kind) → HasPlayed g ps b state → state ≡ left g
