-- A process and a board stand for an origin and a count of its cycles.
use Rattle.std.specs.Prelude.{◌≡◌, ℕ, ◌≤◌, List, Option, Some}
use Rattle.c6x_spec.specs.Memory.{Memory}
use Rattle.c6x_access.specs.declared.area.Area.{Area}
use Rattle.c6x_machine.specs.Machine.{alone, life}
use Rattle.c6x_machine.specs.Origin.{Origin}
use Rattle.c6x_exec.specs.Stands.{Keeps}
use Rattle.c6x_machine.specs.declared.end.End.{End}
use Rattle.c6x_exec.specs.declared.process.Process.{Process}

-- the areas of the process
abbrev pub areas_of : Process → List Area
areas_of p = p.map

abbrev pub ended_of : Process → Option End
ended_of p = p.context.ended

abbrev pub cycles_of : Process → ℕ
cycles_of p = p.context.cycles

abbrev pub limit_of : Process → ℕ
limit_of p = p.context.limit

-- The count is at least that of the first part, and the process has not ended before it; and the process and the board
-- keep what the machine has at that count.
pub record StandsFor (p : Process) (b : Memory) (s : Origin) (n : ℕ) : Type 0 where
  pub began : s.count ≤ n
  pub lives : (alone s n).count ≡ n
  pub areas : areas_of p ≡ s.areas
  pub keeps : Keeps p.context b s (alone s n)

-- The process has run to its end, which is this one; nothing of its life comes behind it.
pub record HasRun (p : Process) (b : Memory) (s : Origin) (end : End) : Type 0 where
  pub ended : (alone s s.limit).ended ≡ Some end
  pub last : alone s (life s) ≡ alone s s.limit
  pub stands : StandsFor p b s (life s)
