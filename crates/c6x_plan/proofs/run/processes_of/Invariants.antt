use Rattle.std.proofs.Common.{◌≡◌, map, take}
use Rattle.c6x_plan.specs.RunPlans.{process_of}
use Rattle.c6x_plan.proofs.run.processes_of.Given as goal

abbrev pub invariant-loop-line : goal.invariant-loop-line
invariant-loop-line l = l.processes ≡ map (process_of l.modules) (take l.line-index l.lines)
