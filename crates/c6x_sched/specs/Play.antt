-- Plays: the turns that processes may be given one after another, by their starts and the policy alone.
use Rattle.std.specs.Prelude.{◌≡◌, ℕ, ◌-◌, ◌<◌, ◌≤◌, List, [], ◌∷◌, length, min, IsTrue}
use Rattle.c6x_spec.specs.Memory.{Memory}
use Rattle.c6x_machine.specs.Machine.{life}
use Rattle.c6x_machine.specs.Origin.{Origin}
use Rattle.c6x_exec.specs.declared.process.Process.{Process}
use Rattle.c6x_ports.specs.Chooser.{Chooser}
use Rattle.c6x_ports.specs.Picks.{is_named, pick_of, effective_process, effective_steps}
use Rattle.c6x_ports.specs.declared.kind.Kind.{Kind}
use Rattle.c6x_ports.specs.declared.pick.Pick.{Pick}
use Rattle.c6x_sched.specs.Together.{AllStand}
use Rattle.c6x_sched.specs.Turns.{open_from, moved}

-- A turn that was done: which process ran, for how many cycles.
pub record Played : Type 0 where
  pub process : ℕ
  pub cycles : ℕ

-- What turns begin with: so many processes, the quantum, where each starts and how many cycles it has done, and the kind
-- and the state of the policy.
pub record Game : Type 0 where
  pub count : ℕ
  pub quantum : ℕ
  pub starts : ℕ → Origin
  pub first : ℕ → ℕ
  pub kind : Kind
  pub state : List ℕ

-- How many cycles each process has done after some turns, the newest first.
abbrev pub counts_of : Game → List Played → ℕ → ℕ
counts_of g [] = g.first
counts_of g (t ∷ earlier) = moved (counts_of g earlier) t.process t.cycles

-- The numbers of those that have not ended then.
abbrev pub open_of : Game → List Played → List ℕ
open_of g play = open_from g.starts (counts_of g play) 0 g.count

-- The state of a policy of a named kind then.
abbrev pub state_of : Game → List Played → List ℕ
state_of g [] = g.state
state_of g (t ∷ earlier) = (pick_of g.kind (state_of g earlier) (open_of g earlier)).1

-- The turn that may come after some turns: what some pick stands for among the processes that have not ended, and for a
-- named kind that pick is the policy's.
pub record IsNext (g : Game) (earlier : List Played) (t : Played) : Type 0 where
  pub pick : Pick
  pub some : 0 < length (open_of g earlier)
  pub done : 1 ≤ t.cycles
  pub process : t.process ≡ effective_process g.count (open_of g earlier) pick
  pub cycles : t.cycles ≡ min (effective_steps g.quantum pick) (life (g.starts t.process) - counts_of g earlier t.process)
  pub named : IsTrue (is_named g.kind) → pick ≡ (pick_of g.kind (state_of g earlier) (open_of g earlier)).0

-- Each turn of a play may come after those before it.
abbrev pub IsPlay : Game → List Played → Type 0
IsPlay g [] = Unit {0}
IsPlay g (t ∷ earlier) = IsPlay g earlier × IsNext g earlier t

-- Every process has ended.
abbrev pub IsOver : Game → List Played → Type 0
IsOver g play = open_of g play ≡ []

-- A play has led here: the processes and the board stand for its counts, and a named policy is in its state.
pub record PlaysOn (g : Game) (ps : List Process) (b : Memory) (state : List ℕ) : Type 0 where
  pub play : List Played
  pub is : IsPlay g play
  pub stand : AllStand ps b g.starts (counts_of g play)
  pub left : IsTrue (is_named g.kind) → state ≡ state_of g play

-- A play up to the end of every process has led here.
pub record HasPlayed (g : Game) (ps : List Process) (b : Memory) (state : List ℕ) : Type 0 where
  pub on : PlaysOn g ps b state
  pub over : IsOver g on.play

-- The game of these processes, from these starts and counts on, under this policy.
abbrev pub game_of : List Process → ℕ → Chooser → (ℕ → Origin) → (ℕ → ℕ) → Game
game_of ps quantum policy s n =
    record { count = length ps; quantum = quantum; starts = s; first = n; kind = policy.kind; state = policy.state }
