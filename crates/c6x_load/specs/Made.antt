-- Processes before their first cycle.
use Rattle.std.specs.Prelude.{◌≡◌, ℕ, List, [], ◌∷◌, slice_get, Some, None}
use Rattle.c6x_spec.specs.Memory.{Memory}
use Rattle.c6x_machine.specs.Origin.{Origin}
use Rattle.c6x_exec.specs.Process.{StandsFor, areas_of, ended_of}
use Rattle.c6x_exec.specs.Stands.{HoldsBytes}
use Rattle.c6x_exec.specs.declared.process.Process.{Process}

-- The process stands for this origin wherever the memory holds its bytes in its areas.
pub record IsMade (process : Process) (origin : Origin) : Type 0 where
  pub stands : (memory : Memory) → HoldsBytes memory origin.bytes origin.areas → StandsFor process memory origin 0
  pub areas : areas_of process ≡ origin.areas
  pub running : ended_of process ≡ None

-- One process for each origin.
abbrev pub AreMade : List Process → List Origin → Type 0
AreMade [] [] = Unit {0}
AreMade [] (origin ∷ origins) = ⊥
AreMade (process ∷ processes) [] = ⊥
AreMade (process ∷ processes) (origin ∷ origins) = IsMade process origin × AreMade processes origins

-- No process has ended.
abbrev pub AreFresh : List Process → Type 0
AreFresh processes = (number : ℕ) (process : Process) → slice_get processes number ≡ Some process → ended_of process ≡ None
