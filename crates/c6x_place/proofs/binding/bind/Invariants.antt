use Rattle.std.proofs.Common.{◌≡◌, drop, take, map}
use Rattle.c6x_place.specs.Plans.{plans_refusal, bound_plan}
use Rattle.c6x_place.proofs.binding.bind.Given as goal

abbrev pub invariant-loop-process : goal.invariant-loop-process
invariant-loop-process l = record {
  rules : plans_refusal l.modules l.process (drop l.process l.processes) ≡ plans_refusal l.modules 0 l.processes;
  made : l.bound.items ≡ map (bound_plan l.modules) (take l.process l.processes);
}
