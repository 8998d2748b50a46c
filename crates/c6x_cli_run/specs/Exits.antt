-- How a command ends (this project's own).
use Rattle.std.specs.Prelude.{◌≡◌, ℕ, ◌⊎◌, List, [], ◌∷◌, Option, None, Some, Result, Ok, Err, Contains}
use Rattle.c6x_spec.specs.Files.{Rose}
use Rattle.c6x_spec.specs.Memory.{Memory}
use Rattle.c6x_spec.specs.Sinks.{Takes}
use Rattle.c6x_cli_steps.specs.declared.cause.Cause.{Cause}
use Rattle.c6x_cli_steps.specs.declared.commit_error.CommitError.{CommitError}
use Rattle.c6x_cli_steps.specs.declared.commit_error.CommitError.TheVariants.{WriteFault, Memory as NoMemory}
use Rattle.c6x_cli_steps.specs.Lines.{Reports, line_of, memory_line, read_fault_line, status_of, write_fault_line}
use Rattle.c6x_cli_steps.specs.Policies.{Asked, HasAsked, MayHaveAsked}
use Rattle.c6x_cli_steps.specs.Stages.{Stage, board_of, text_of}
use Rattle.c6x_cli_steps.specs.Steps.{Steps}
use Rattle.c6x_cli_steps.specs.Stores.{HasStored, HasCutStore}
use Rattle.c6x_cli_steps.specs.World.{World}
use Rattle.c6x_cli_run.specs.Tellings.{HasPut, IsPutCut, Telling, untold}

-- What a command that is carried out does: what it puts, what it stores, and what it asks of the policies.
pub record Outcome : Type 0 where
  pub telling : Telling
  pub stored : Option (List ℕ × List ℕ)
  pub asked : Option Asked

-- A command that writes to the board and the output, and stores nothing.
abbrev pub put_outcome : List Stage → Outcome
put_outcome stages = record { telling = untold stages; stored = None; asked = None }

-- The same of a command that asks a policy.
abbrev pub asking_outcome : Telling → Asked → Outcome
asking_outcome telling asked = record { telling = telling; stored = None; asked = Some asked }

-- A command that stores puts nothing, and leaves the board as it is.
abbrev pub store_outcome : List ℕ → List ℕ → Memory → Outcome
store_outcome name bytes board =
    record { telling = untold (record { text = []; board = board } ∷ []); stored = Some (name, bytes); asked = None }

-- A command stopped behind these stages, with nothing stored and no policy asked.
pub record Leaves (stages : List Stage) (before after : World) : Type 0 where
  pub files : after.shelf.files ≡ before.shelf.files
  pub out : Takes (text_of stages) before.out.bytes after.out.bytes
  pub board : after.board ≡ board_of stages before.board
  pub policies : after.policies ≡ before.policies

-- It did so, and reported the line.
pub record IsStopped (line : List ℕ) (wanted : ℕ) (stages : List Stage) (status : ℕ) (before after : World) : Type 0 where
  pub leaves : Leaves stages before after
  pub reports : Reports line wanted status before.err after.err

-- All was done: all stages on the output and the board as at the last of them, nothing on the error output, the store
-- alone on the shelf, and of the policies none asked but the one.
pub record IsDone (outcome : Outcome) (before after : World) : Type 0 where
  pub put : HasPut outcome.telling before.out.bytes after.out.bytes before.board after.board
  pub err : after.err.bytes ≡ before.err.bytes
  pub files : HasStored outcome.stored before.shelf.files after.shelf.files
  pub policies : HasAsked outcome.asked before.policies after.policies

-- Whose fault was counted: the shelf's, where the command stores, and else the output's.
abbrev pub CountsFault : Option (List ℕ × List ℕ) → World → World → Type 0
CountsFault None before after = Rose before.out.faults after.out.faults
CountsFault (Some file) before after = Rose before.shelf.write_faults after.shelf.write_faults

-- A fault cut one of the stages, or the store.
pub record CutsShort (outcome : Outcome) (before after : World) : Type 0 where
  pub put : IsPutCut outcome.telling before.out.bytes after.out.bytes after.board
  pub files : HasCutStore outcome.stored before.shelf.files after.shelf.files
  pub policies : MayHaveAsked outcome.asked before.policies after.policies
  pub counts : CountsFault outcome.stored before after

-- It did so, and the fault was reported.
pub record IsCut (outcome : Outcome) (status : ℕ) (before after : World) : Type 0 where
  pub short : CutsShort outcome before after
  pub reports : Reports write_fault_line 6 status before.err after.err

-- What a call that carries a command out gives: all is done, or a fault cut it, or memory ran out before the first write.
abbrev pub Carries : {A : Type 0} → Outcome → Result A CommitError → World → World → Type 0
Carries outcome (Ok _) before after = IsDone outcome before after
Carries outcome (Err WriteFault) before after = CutsShort outcome before after
Carries outcome (Err NoMemory) before after = Leaves [] before after

-- All was done, or a fault cut it.
abbrev pub Commits : Outcome → ℕ → World → World → Type 0
Commits outcome status before after =
    ((status ≡ 0) × IsDone outcome before after) ⊎ ((status ≡ 6) × IsCut outcome status before after)

-- Memory ran out before the first write.
abbrev pub LacksMemory : ℕ → World → World → Type 0
LacksMemory status before after = IsStopped memory_line 7 [] status before after

-- A file of one of these names could not be read, and nothing was written.
pub record MeetsReadFault (names : List (List ℕ)) (status : ℕ) (before after : World) : Type 0 where
  pub name : List ℕ
  pub fetched : Contains names name
  pub counted : Rose before.shelf.read_faults after.shelf.read_faults
  pub stopped : IsStopped (read_fault_line name) 5 [] status before after

-- What words, files and board come to, and what is seen of it. A stop has left nothing: as yet every command decides all
-- before its first write.
abbrev pub EndsAs : Result Outcome Cause → ℕ → World → World → Type 0
EndsAs (Ok outcome) status before after = Commits outcome status before after
EndsAs (Err cause) status before after = IsStopped (line_of cause) (status_of cause) [] status before after

-- How a command ends on told files: as they and the words say, or stopped by a device, or for want of memory.
abbrev pub Exits : Steps Outcome → ℕ → World → World → Type 0
Exits steps status before after =
    EndsAs steps.result status before after ⊎ (MeetsReadFault steps.fetches status before after ⊎ LacksMemory status before after)

-- No device failed.
pub record NoFault (before after : World) : Type 0 where
  pub read : ¬ Rose before.shelf.read_faults after.shelf.read_faults
  pub write : ¬ Rose before.shelf.write_faults after.shelf.write_faults
  pub out : ¬ Rose before.out.faults after.out.faults
  pub err : ¬ Rose before.err.faults after.err.faults

-- A command stopped behind these stages, and its whole line was taken.
pub record HasReported (line : List ℕ) (wanted : ℕ) (stages : List Stage) (status : ℕ) (before after : World) : Type 0 where
  pub is : status ≡ wanted
  pub leaves : Leaves stages before after
  pub taken : Takes line before.err.bytes after.err.bytes

-- What words, files and board come to where no device fails, in status, output, error output, board, files and policies.
abbrev pub IsResult : Result Outcome Cause → ℕ → World → World → Type 0
IsResult (Ok outcome) status before after = (status ≡ 0) × IsDone outcome before after
IsResult (Err cause) status before after = HasReported (line_of cause) (status_of cause) [] status before after

-- So a command ends where no device fails: exactly as words, files and board say, or for want of memory.
abbrev pub Completes : Steps Outcome → ℕ → World → World → Type 0
Completes steps status before after =
    IsResult steps.result status before after ⊎ HasReported memory_line 7 [] status before after
