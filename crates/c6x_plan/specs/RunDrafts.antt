-- What the lines of a plan have said so far, as the reader keeps it.
use Rattle.std.specs.Prelude.{not, ◌||◌, nat_le, unwrap_or, ◌++◌, map, List, [], ◌∷◌, length, Option, Some, Result}
use Rattle.std.specs.List.{filter_map}
use Rattle.c6x_plan.specs.declared.limits.TheConstants.{MOST_MODULES, MOST_PROCESSES, QUANTUM}
use Rattle.c6x_plan.specs.PlanRules.{Broken}
use Rattle.c6x_plan.specs.PlanRules.{PlanRule}
use Rattle.c6x_plan.specs.declared.run_draft.RunDraft.{RunDraft}
use Rattle.c6x_plan.specs.declared.run_line.RunLine.{RunLine}
use Rattle.c6x_plan.specs.declared.run_line.RunLine.TheVariants.{Quantum, Module, Process}
use Rattle.c6x_plan.specs.declared.run_plan.RunPlan.{RunPlan}
use Rattle.c6x_plan.specs.Rules.{first_given, once}
use Rattle.c6x_plan.specs.RunLines.{has_module, has_process, module_in, name_or_count, process_in, quantum_in}
use Rattle.c6x_plan.specs.RunPlans.{process_of, with_process}

-- What lines have said that mean these.
abbrev pub run_draft_of : List RunLine → RunDraft
run_draft_of lines = record {
  quantum = first_given quantum_in lines;
  modules = filter_map module_in lines;
  processes = filter_map process_in lines;
}

-- The rule that a line breaks behind what was said.
unfoldable pub draft_rule : RunDraft → RunLine → Option PlanRule
draft_rule draft (Quantum quantum) = once draft.quantum
draft_rule draft (Module image) =
    name_or_count (has_module draft.modules image.name) (nat_le MOST_MODULES (length draft.modules))
draft_rule draft (Process process) =
    name_or_count (not (has_module draft.modules process.image) || has_process draft.processes process.name) (nat_le MOST_PROCESSES (length draft.processes))

-- What is said with one more line, which breaks no rule.
unfoldable pub draft_with : RunDraft → RunLine → RunDraft
draft_with draft (Quantum quantum) = record draft { quantum = Some quantum }
draft_with draft (Module image) = record draft { modules = draft.modules ++ image ∷ [] }
draft_with draft (Process process) = record draft { processes = draft.processes ++ process ∷ [] }

-- The plan of what all lines said.
abbrev pub plan_drafted : RunDraft → RunPlan
plan_drafted draft = record {
  quantum = unwrap_or draft.quantum QUANTUM;
  modules = draft.modules;
  processes = map (process_of draft.modules) draft.processes;
}

unfoldable pub finished : RunDraft → Result RunPlan Broken
finished draft = with_process (plan_drafted draft)
