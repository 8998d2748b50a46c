-- What a run of one process on the board of all did.
use Rattle.std.specs.Prelude.{◌≡◌, ◌≢◌, ℕ, ◌+◌, ◌-◌, ◌<◌, ◌≤◌, min, List, length, slice_get, Some}
use Rattle.c6x_spec.specs.Memory.{Memory}
use Rattle.c6x_machine.specs.Machine.{life}
use Rattle.c6x_machine.specs.Origin.{Origin}
use Rattle.c6x_exec.specs.Fits.{IsFramed}
use Rattle.c6x_exec.specs.Process.{areas_of, ended_of, cycles_of, limit_of, StandsFor}
use Rattle.c6x_exec.specs.declared.process.Process.{Process}
use Rattle.c6x_exec.specs.declared.run.Ran.{Ran}

-- The process did up to so many cycles.
pub record HasRunOn (p q : Process) (b c : Memory) (steps : ℕ) (ran : Ran) : Type 0 where
  pub stands : (s : Origin) (n : ℕ) → StandsFor p b s n → StandsFor q c s (n + ran.cycles)
  pub count : (s : Origin) (n : ℕ) → StandsFor p b s n → ran.cycles ≡ min steps (life s - n)
  pub ended : ran.end ≡ ended_of q
  pub areas : areas_of q ≡ areas_of p
  pub frame : IsFramed (areas_of p) b c
  pub some : 1 ≤ ran.cycles
  pub cycles : cycles_of q ≡ cycles_of p + ran.cycles
  pub limit : limit_of q ≡ limit_of p

-- The process at this number did, and each other one is as it was.
pub record IsTurned (ps qs : List Process) (b c : Memory) (at steps : ℕ) (ran : Ran) : Type 0 where
  pub within : at < length ps
  pub length : length qs ≡ length ps
  pub others : (k : ℕ) → k ≢ at → slice_get qs k ≡ slice_get ps k
  pub run : (p q : Process) → slice_get ps at ≡ Some p → slice_get qs at ≡ Some q → HasRunOn p q b c steps ran
