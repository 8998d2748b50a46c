-- Plans of a run: the plan of a text.
use Rattle.std.specs.Prelude.{ℕ, ◌==◌, unwrap_or, map, if◌then◌else◌, codes, List, [], length, Result, Ok, Err}
use Rattle.std.specs.List.{filter_map, position_or_len}
use Rattle.std.specs.Str.{bytes_eq}
use Rattle.c6x_spec.specs.Results.{◌>>=◌}
use Rattle.c6x_plan.specs.declared.limits.TheConstants.{QUANTUM}
use Rattle.c6x_plan.specs.declared.module_plan.ModulePlan.{ModulePlan}
use Rattle.c6x_plan.specs.PlanRules.{Broken, broken_at, Count as CountRule}
use Rattle.c6x_plan.specs.declared.process_plan.ProcessPlan.{ProcessPlan}
use Rattle.c6x_plan.specs.declared.run_line.ProcessLine.{ProcessLine}
use Rattle.c6x_plan.specs.declared.run_line.RunLine.{RunLine}
use Rattle.c6x_plan.specs.declared.run_plan.RunPlan.{RunPlan}
use Rattle.c6x_plan.specs.Lines.{said_lines}
use Rattle.c6x_plan.specs.RunLines.{quantum_in, module_in, process_in, run_line, run_rule}
use Rattle.c6x_plan.specs.Rules.{behind_first, meanings, first_given}

-- The number of the module with this name.
abbrev pub number_of : List ModulePlan → List ℕ → ℕ
number_of modules name = position_or_len (λ image. bytes_eq image.name name) modules

abbrev pub process_of : List ModulePlan → ProcessLine → ProcessPlan
process_of modules process = record {
  name = process.name;
  «module» = number_of modules process.image;
  limit = process.sizes.limit;
  stack = process.sizes.stack;
  arg = process.sizes.arg;
}

-- The plan of lines that mean these.
unfoldable pub run_plan_of : List RunLine → RunPlan
run_plan_of lines = record {
  quantum = unwrap_or (first_given quantum_in lines) QUANTUM;
  modules = filter_map module_in lines;
  processes = map (process_of (filter_map module_in lines)) (filter_map process_in lines);
}

-- A plan has a process.
abbrev pub with_process : RunPlan → Result RunPlan Broken
with_process plan = if length plan.processes == 0 then Err (broken_at 0 CountRule) else Ok plan

-- The plan of a text, or the first rule that the text breaks, by line and then by number.
unfoldable pub run_plan : List ℕ → Result RunPlan Broken
run_plan text = do
  lines ← behind_first (codes "c6x-plan") (said_lines 0 text)
  meant ← meanings run_line run_rule [] lines
  with_process (run_plan_of meant)
