-- What a status shows, and what a command that was performed has done (this project's own).
use Rattle.std.specs.Prelude.{◌≡◌, ◌≢◌, ◌≤◌, ℕ, ◌⊎◌, Bool, true, false, IsTrue, List, [], Option, None, Some, Ok}
use Rattle.c6x_spec.specs.Files.{Files, Rose}
use Rattle.c6x_spec.specs.Memory.{Memory}
use Rattle.c6x_spec.specs.Sinks.{TakesFront}
use Rattle.c6x_ports.specs.declared.kind.Kind.{Kind}
use Rattle.c6x_cli_steps.specs.declared.prepare_error.PrepareError.{PrepareError}
use Rattle.c6x_cli_run.specs.Exits.{Commits, HasReported, IsStopped, LacksMemory, Leaves, Outcome, store_outcome}
use Rattle.c6x_cli_steps.specs.Lines.{Reports, error_line, error_status, write_fault_line}
use Rattle.c6x_cli_steps.specs.Policies.{asked_kind}
use Rattle.c6x_cli_steps.specs.Steps.{Steps, Stops, HasCause}
use Rattle.c6x_cli_steps.specs.Stores.{KeepsWriteFaults}
use Rattle.c6x_cli_steps.specs.World.{World}

-- What a status shows, whether or not the devices tell what they hold.
pub record Shows (status : ℕ) (storing : Bool) (before after : World) : Type 0 where
  -- 0 comes with nothing on the error output
  pub done : status ≡ 0 → after.err.bytes ≡ before.err.bytes
  -- 3, 5 and 6 come only where the device has counted it
  pub missing : status ≡ 3 → Rose before.shelf.absences after.shelf.absences
  pub read_fault : status ≡ 5 → Rose before.shelf.read_faults after.shelf.read_faults
  pub write_fault : status ≡ 6 → Rose before.out.faults after.out.faults ⊎ (Rose before.err.faults after.err.faults ⊎ (IsTrue storing × Rose before.shelf.write_faults after.shelf.write_faults))
  -- a stop leaves its whole line and nothing else; at 6 that line was cut, or a write fault was reported
  pub stopped : status ≢ 0 → status ≢ 6 → (error : PrepareError) × HasReported (error_line error) (error_status error) [] status before after
  pub cut : status ≡ 6 → ((error : PrepareError) × (TakesFront (error_line error) before.err.bytes after.err.bytes × Leaves [] before after)) ⊎ Reports write_fault_line 6 status before.err after.err
  -- no other status comes
  pub known : (status ≤ 7) × (status ≢ 1)

-- What a command keeps, whether or not the devices tell what they hold: one that stores writes no output and no board, and
-- no other one changes the shelf.
pub record Keeps (storing : Bool) (before after : World) : Type 0 where
  pub out : IsTrue storing → after.out.bytes ≡ before.out.bytes
  pub board : IsTrue storing → after.board ≡ before.board
  pub files : storing ≡ false → after.shelf.files ≡ before.shelf.files
  pub write_faults : KeepsWriteFaults storing before.shelf after.shelf

-- An outcome of a command that stores, or of one that does not.
abbrev pub IsOfKind : Bool → Memory → Outcome → Type 0
IsOfKind true board outcome = (name : List ℕ) × ((bytes : List ℕ) × (outcome ≡ store_outcome name bytes board))
IsOfKind false board outcome = outcome.stored ≡ None

-- A command was prepared, and carried out to this outcome, or memory ran out.
pub record IsCarriedOut (steps : Files → Steps Outcome) (storing : Bool) (asking : Option Kind) (status : ℕ) (before after : World) : Type 0 where
  pub outcome : Outcome
  pub given : (told : Files) → before.shelf.files ≡ Some told → (steps told).result ≡ Ok outcome
  pub kind : IsOfKind storing before.board outcome
  pub asks : asked_kind outcome.asked ≡ asking
  pub ends : Commits outcome status before after ⊎ LacksMemory status before after

-- An error stopped it before its first write.
pub record IsPrevented (steps : Files → Steps Outcome) (status : ℕ) (before after : World) : Type 0 where
  pub error : PrepareError
  pub given : (told : Files) → before.shelf.files ≡ Some told → Stops error (steps told)
  pub cause : HasCause error before.shelf after.shelf
  pub stopped : IsStopped (error_line error) (error_status error) [] status before after

-- A command whose words have a reading was carried out, or an error prevented it.
pub record Performs (steps : Files → Steps Outcome) (storing : Bool) (asking : Option Kind) (status : ℕ) (before after : World) : Type 0 where
  pub way : IsCarriedOut steps storing asking status before after ⊎ IsPrevented steps status before after
  pub write_faults : KeepsWriteFaults storing before.shelf after.shelf
