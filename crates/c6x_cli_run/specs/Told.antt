-- What telling turns comes to.
use Rattle.std.specs.Prelude.{ℕ, List, ◌∷◌, Option, Result, OnOk, OnErr}
use Rattle.c6x_spec.specs.Memory.{Memory}
use Rattle.c6x_spec.specs.Sinks.{Takes}
use Rattle.c6x_ports.specs.Sink.{Taken}
use Rattle.c6x_cli_steps.specs.Stages.{TakesBehind}
use Rattle.c6x_exec.specs.declared.process.Process.{Process}
use Rattle.c6x_sched.specs.Together.{AllStand}
use Rattle.c6x_sched.specs.Play.{Game, Played, IsPlay, PlaysOn, HasPlayed, counts_of}
use Rattle.c6x_cli_run.specs.TurnLines.{line_of, turn_lines}

-- A play has led here, and its lines were taken.
pub record TellsOn (names : List (List ℕ)) (g : Game) (ps : List Process) (b : Memory) (state : List ℕ) (before now : Option (List ℕ)) : Type 0 where
  pub on : PlaysOn g ps b state
  pub taken : Takes (turn_lines names on.play) before now

-- The same of a play up to the end of every process.
pub record HasTold (names : List (List ℕ)) (g : Game) (ps : List Process) (b : Memory) (state : List ℕ) (before now : Option (List ℕ)) : Type 0 where
  pub played : HasPlayed g ps b state
  pub taken : Takes (turn_lines names played.on.play) before now

-- A fault of the output cut the line of the last turn that was done; the processes and the board are as after that turn.
pub record IsToldCut (names : List (List ℕ)) (g : Game) (ps : List Process) (b : Memory) (before now : Option (List ℕ)) : Type 0 where
  pub earlier : List Played
  pub last : Played
  pub is : IsPlay g (last ∷ earlier)
  pub stand : AllStand ps b g.starts (counts_of g (last ∷ earlier))
  pub out : TakesBehind (turn_lines names earlier) (line_of names last) before now

-- What telling turns does: every process has ended and all lines were taken, or a fault was counted and cut one. The count
-- does not fall.
pub record TellsTurns {A E : Type 0} (names : List (List ℕ)) (g : Game) (ps : List Process) (b : Memory) (state : List ℕ) (out new_out : Taken) (result : Result A E) : Type 0 where
  pub all : OnOk result (HasTold names g ps b state out.bytes new_out.bytes)
  pub cut : OnErr result (IsToldCut names g ps b out.bytes new_out.bytes)
