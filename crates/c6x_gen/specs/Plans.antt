-- The run plan that a number generates: eight processes of the one executable, each with an argument of its own.
use Rattle.std.specs.Prelude.{ℕ, ◌+◌, ◌%◌, List, ◌∷◌, ◌++◌, codes, decimal}
use Rattle.c6x_plan.specs.declared.module_plan.ModulePlan.{ModulePlan}
use Rattle.c6x_plan.specs.declared.process_plan.ProcessPlan.{ProcessPlan}
use Rattle.c6x_plan.specs.declared.run_plan.RunPlan.{RunPlan}
use Rattle.c6x_gen.specs.Lists.{each_library, each_process}
use Rattle.c6x_gen.specs.Links.{app_name}
use Rattle.c6x_gen.specs.Sources.{library_name}

-- A module's file has the module's name.
abbrev pub module_named : List ℕ → ModulePlan
module_named name = record { name = name; file = name }

abbrev pub process_name : ℕ → List ℕ
process_name process = codes "p" ++ decimal process

abbrev pub process_numbered : ℕ → ℕ → ProcessPlan
process_numbered number process = record {
  name = process_name process;
  «module» = 0;
  limit = 100000;
  stack = 64;
  arg = (number + process) % 100;
}

unfoldable pub plan_numbered : ℕ → RunPlan
plan_numbered number = record {
  quantum = 1 + number % 50;
  modules = module_named app_name ∷ each_library (λ library. module_named (library_name library));
  processes = each_process (process_numbered number);
}
