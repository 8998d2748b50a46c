-- What a command puts that may tell turns, and the board meanwhile.
use Rattle.std.specs.Prelude.{◌≡◌, ◌≤◌, ℕ, ◌⊎◌, List, [], ◌∷◌, ◌++◌, Option, None, Some, Result, Err, OnOk, OnErr}
use Rattle.c6x_spec.specs.Files.{Rose}
use Rattle.c6x_spec.specs.Memory.{Memory}
use Rattle.c6x_spec.specs.Sinks.{Takes}
use Rattle.c6x_ports.specs.Sink.{Taken}
use Rattle.c6x_sched.specs.Play.{Game, Played, IsPlay, IsOver, counts_of}
use Rattle.c6x_cli_steps.specs.declared.commit_error.CommitError.{CommitError}
use Rattle.c6x_cli_steps.specs.declared.commit_error.CommitError.TheVariants.{WriteFault, Memory as NoMemory}
use Rattle.c6x_cli_steps.specs.Stages.{Stage, CutsAt, board_of, text_of}
use Rattle.c6x_cli_run.specs.TurnBoards.{boards_at}
use Rattle.c6x_cli_run.specs.TurnLines.{line_of}

-- The turns that are told, if any; the stages that some turns come to; and those behind the last turn. Stages and turns
-- are listed newest first.
pub record Telling : Type 0 where
  pub game : Option Game
  pub stages : List Played → List Stage
  pub last : List Stage

-- Stages with no turn told.
abbrev pub untold : List Stage → Telling
untold stages = record { game = None; stages = λ play. stages; last = [] }

-- The turns that may be told,
abbrev pub MayPlay : Option Game → List Played → Type 0
MayPlay None play = play ≡ []
MayPlay (Some game) play = IsPlay game play

-- and those up to the end of every process.
abbrev pub MayPlayWhole : Option Game → List Played → Type 0
MayPlayWhole None play = play ≡ []
MayPlayWhole (Some game) play = IsPlay game play × IsOver game play

-- All was put: the stages of turns up to the end of every process and those behind them, and the board is as at the newest.
pub record HasPut (telling : Telling) (before now : Option (List ℕ)) (first board : Memory) : Type 0 where
  pub play : List Played
  pub whole : MayPlayWhole telling.game play
  pub taken : Takes (text_of (telling.last ++ telling.stages play)) before now
  pub at : board ≡ board_of (telling.last ++ telling.stages play) first

-- A fault cut a stage: one of some turns, or one of all turns and what is behind them.
pub record IsPutCut (telling : Telling) (before now : Option (List ℕ)) (board : Memory) : Type 0 where
  pub play : List Played
  pub cut : (MayPlay telling.game play × CutsAt (telling.stages play) before now board)
      ⊎ (MayPlayWhole telling.game play × CutsAt (telling.last ++ telling.stages play) before now board)

-- What putting it does: all was put, or a fault was counted and cut a stage. The count does not fall.
pub record PutsTelling {A E : Type 0} (telling : Telling) (out new_out : Taken) (first board : Memory) (result : Result A E) : Type 0 where
  pub all : OnOk result (HasPut telling out.bytes new_out.bytes first board)
  pub cut : OnErr result (IsPutCut telling out.bytes new_out.bytes board)
  pub failed : OnErr result (Rose out.faults new_out.faults)
  pub kept : out.faults ≤ new_out.faults

-- What a call does that takes all of its memory before it puts: it puts all, or a fault was counted and cut a stage, or
-- memory ran out and nothing was written.
pub record Tells {A : Type 0} (telling : Telling) (out new_out : Taken) (first board : Memory) (result : Result A CommitError) : Type 0 where
  pub all : OnOk result (HasPut telling out.bytes new_out.bytes first board)
  pub cut : result ≡ Err WriteFault → IsPutCut telling out.bytes new_out.bytes board
  pub failed : result ≡ Err WriteFault → Rose out.faults new_out.faults
  pub unwritten : result ≡ Err NoMemory → (new_out.bytes ≡ out.bytes) × (board ≡ first)

-- A first text, and behind it a line for each turn, put on the board where the processes have done their cycles so far.
abbrev pub turn_stages : List (List ℕ) → Game → List ℕ → Memory → List Played → List Stage
turn_stages names game opening board [] = record { text = opening; board = board } ∷ []
turn_stages names game opening board (t ∷ earlier) =
    record { text = line_of names t; board = boards_at game.starts (counts_of game (t ∷ earlier)) game.count board }
    ∷ turn_stages names game opening board earlier
