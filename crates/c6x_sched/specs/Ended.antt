-- Processes that have run to their ends.
use Rattle.std.specs.Prelude.{◌≡◌, ℕ, List, slice_get, Some}
use Rattle.c6x_spec.specs.Memory.{Memory}
use Rattle.c6x_machine.specs.Origin.{Origin}
use Rattle.c6x_machine.specs.declared.end.End.{End}
use Rattle.c6x_exec.specs.Process.{ended_of, HasRun}
use Rattle.c6x_exec.specs.declared.process.Process.{Process}

pub record HasEnded (p : Process) : Type 0 where
  pub end : End
  pub is : ended_of p ≡ Some end

abbrev pub AllEnded : List Process → Type 0
AllEnded ps = (i : ℕ) (p : Process) → slice_get ps i ≡ Some p → HasEnded p

-- The process has the end of its machine alone, and with the board it stands for all of its life.
pub record HasLived (p : Process) (b : Memory) (s : Origin) : Type 0 where
  pub ended : HasEnded p
  pub ran : HasRun p b s ended.end

abbrev pub AllHaveLived : List Process → Memory → (ℕ → Origin) → Type 0
AllHaveLived ps b s = (i : ℕ) (p : Process) → slice_get ps i ≡ Some p → HasLived p b (s i)
