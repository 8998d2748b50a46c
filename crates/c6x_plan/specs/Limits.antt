-- What is true of the counts, names and numbers of a plan that was read.
use Rattle.std.specs.Prelude.{◌≡◌, ◌≢◌, ℕ, ◌≤◌, ◌<◌, ◌%◌, All, AllPairs, IfSome, List, length}
use Rattle.c6x_base.specs.declared.limits.TheConstants.{MOST_NAME_BYTES}
use Rattle.c6x_plan.specs.declared.limits.TheConstants.{MOST_NEEDED, MOST_OBJECTS, MOST_MODULES, MOST_PROCESSES, MOST_CYCLES, MOST_QUANTUM, LEAST_STACK, MOST_STACK}
use Rattle.c6x_plan.specs.declared.link_plan.LinkPlan.{LinkPlan}
use Rattle.c6x_plan.specs.declared.module_plan.ModulePlan.{ModulePlan}
use Rattle.c6x_plan.specs.declared.process_plan.ProcessPlan.{ProcessPlan}
use Rattle.c6x_plan.specs.declared.run_plan.RunPlan.{RunPlan}

abbrev pub IsShortName : List ℕ → Type 0
IsShortName name = length name ≤ MOST_NAME_BYTES

-- A link plan is within its limits.
pub record IsLinkPlan (plan : LinkPlan) : Type 0 where
  pub needed : length plan.needed ≤ MOST_NEEDED
  pub objects : length plan.objects ≤ MOST_OBJECTS
  pub names : All IsShortName plan.needed
  pub soname : IfSome plan.soname IsShortName
  pub entry : IfSome plan.entry IsShortName

-- The numbers of a process are within their limits.
pub record AreSizes (limit stack : ℕ) : Type 0 where
  pub some : 1 ≤ limit
  pub few : limit ≤ MOST_CYCLES
  pub least : LEAST_STACK ≤ stack
  pub most : stack ≤ MOST_STACK
  pub even : stack % 8 ≡ 0

abbrev pub HaveOtherNames : ModulePlan → ModulePlan → Type 0
HaveOtherNames a b = a.name ≢ b.name

-- A process of a plan is of one of this many modules, and its numbers are within their limits.
pub record IsProcess (modules : ℕ) (process : ProcessPlan) : Type 0 where
  pub known : process.«module» < modules
  pub sizes : AreSizes process.limit process.stack

abbrev pub IsQuantum : ℕ → Type 0
IsQuantum quantum = (1 ≤ quantum) × (quantum ≤ MOST_QUANTUM)

-- A plan is within its limits.
pub record IsRunPlan (plan : RunPlan) : Type 0 where
  pub quantum : IsQuantum plan.quantum
  pub modules : length plan.modules ≤ MOST_MODULES
  pub distinct : AllPairs HaveOtherNames plan.modules
  pub some : 1 ≤ length plan.processes
  pub processes : length plan.processes ≤ MOST_PROCESSES
  pub each : All (IsProcess (length plan.modules)) plan.processes
