use Rattle.std.specs.Prelude.{◌≡◌, ℕ, ◌≤◌, ◌⊎◌, List, [], ◌∷◌, ◌++◌, Option, Result, Err, OnOk, OnErr}
use Rattle.c6x_spec.specs.Files.{Rose}
use Rattle.c6x_spec.specs.Memory.{Memory}
use Rattle.c6x_spec.specs.Sinks.{Takes, TakesFront}
use Rattle.c6x_ports.specs.Sink.{Taken}
use Rattle.c6x_cli_steps.specs.declared.commit_error.CommitError.{CommitError}
use Rattle.c6x_cli_steps.specs.declared.commit_error.CommitError.TheVariants.{WriteFault, Memory as NoMemory}

-- A text that is put on the output while the board is so. Stages are listed newest first.
pub record Stage : Type 0 where
  pub text : List ℕ
  pub board : Memory

-- The text of all stages: the newest is last in it.
abbrev pub text_of : List Stage → List ℕ
text_of [] = []
text_of (stage ∷ earlier) = text_of earlier ++ stage.text

-- The board at the newest stage, or the one that there was before any.
abbrev pub board_of : List Stage → Memory → Memory
board_of [] first = first
board_of (stage ∷ earlier) first = stage.board

-- A first text was taken whole, and behind it a front of another.
pub record TakesBehind (first rest : List ℕ) (before now : Option (List ℕ)) : Type 0 where
  pub amid : Option (List ℕ)
  pub whole : Takes first before amid
  pub front : TakesFront rest amid now

-- A fault of the output cut one of the stages: all earlier ones were taken whole, and the board is as at this one.
abbrev pub CutsAt : List Stage → Option (List ℕ) → Option (List ℕ) → Memory → Type 0
CutsAt [] before now board = ⊥
CutsAt (stage ∷ earlier) before now board =
    (TakesBehind (text_of earlier) stage.text before now × (board ≡ stage.board)) ⊎ CutsAt earlier before now board

-- What putting stages does: all were taken and the board is as at the newest, or a fault was counted and cut one. The
-- count does not fall.
pub record PutsStages {A E : Type 0} (stages : List Stage) (out new_out : Taken) (first board : Memory) (result : Result A E) : Type 0 where
  pub all : OnOk result (Takes (text_of stages) out.bytes new_out.bytes)
  pub at : OnOk result (board ≡ board_of stages first)
  pub cut : OnErr result (CutsAt stages out.bytes new_out.bytes board)
  pub failed : OnErr result (Rose out.faults new_out.faults)
  pub kept : out.faults ≤ new_out.faults

-- What a call does that takes all of its memory before it puts stages: it puts them, or memory ran out and nothing was
-- written.
pub record Delivers {A : Type 0} (stages : List Stage) (out new_out : Taken) (first board : Memory) (result : Result A CommitError) : Type 0 where
  pub all : OnOk result (Takes (text_of stages) out.bytes new_out.bytes)
  pub at : OnOk result (board ≡ board_of stages first)
  pub cut : result ≡ Err WriteFault → CutsAt stages out.bytes new_out.bytes board
  pub failed : result ≡ Err WriteFault → Rose out.faults new_out.faults
  pub unwritten : result ≡ Err NoMemory → (new_out.bytes ≡ out.bytes) × (board ≡ first)
