-- Plans of a run: what each line means, and the rule that it breaks behind earlier ones.
use Rattle.std.specs.Prelude.{ℕ, Bool, ◌%◌, ◌==◌, ◌&&◌, not, ◌||◌, nat_le, if◌then◌else◌, codes, List, [], ◌∷◌, length, Option, None, Some}
use Rattle.std.specs.List.{filter_map, list_any}
use Rattle.std.specs.Option.{option_map}
use Rattle.std.specs.Str.{bytes_eq}
use Rattle.c6x_spec.specs.Options.{◌>>=◌}
use Rattle.c6x_plan.specs.declared.limits.TheConstants.{MOST_MODULES, MOST_PROCESSES, MOST_CYCLES, MOST_QUANTUM, LEAST_STACK, MOST_STACK}
use Rattle.c6x_plan.specs.declared.sizes.Sizes.{Sizes}
use Rattle.c6x_plan.specs.declared.module_plan.ModulePlan.{ModulePlan}
use Rattle.c6x_plan.specs.PlanRules.{PlanRule}
use Rattle.c6x_plan.specs.PlanRules.{Name, Count}
use Rattle.c6x_plan.specs.declared.run_line.ProcessLine.{ProcessLine}
use Rattle.c6x_plan.specs.declared.run_line.RunLine.{RunLine}
use Rattle.c6x_plan.specs.declared.run_line.RunLine.TheVariants.{Quantum, Module, Process}
use Rattle.c6x_plan.specs.Rules.{first_given, once}
use Rattle.c6x_plan.specs.Words.{is_name, number_in}

unfoldable pub quantum_line : List ℕ → List ℕ → Option RunLine
quantum_line key word =
    if bytes_eq key (codes "quantum") then option_map Quantum (number_in 1 MOST_QUANTUM word) else None

unfoldable pub module_line : List ℕ → List ℕ → List ℕ → Option RunLine
module_line key name file =
    if bytes_eq key (codes "module") && is_name name && is_name file then Some (Module (record { name = name; file = file })) else None

-- A number within limits behind its key, and the words behind it.
unfoldable pub number_behind : List ℕ → ℕ → ℕ → List (List ℕ) → Option (ℕ × List (List ℕ))
number_behind key least most (word ∷ digits ∷ rest) =
    if bytes_eq word key then option_map (λ number. (number, rest)) (number_in least most digits) else None
number_behind key least most _ = None

-- The numbers of a process: `limit N stack N arg N`.
unfoldable pub sizes_in : List (List ℕ) → Option Sizes
sizes_in words = do
  limit ← number_behind (codes "limit") 1 MOST_CYCLES words
  stack ← number_behind (codes "stack") LEAST_STACK MOST_STACK limit.1
  arg ← number_behind (codes "arg") 0 4294967295 stack.1
  if length arg.1 == 0 && stack.0 % 8 == 0 then Some (record { limit = limit.0; stack = stack.0; arg = arg.0 }) else None

unfoldable pub process_line : List ℕ → List ℕ → List ℕ → Option Sizes → Option RunLine
process_line key name image sizes =
    if bytes_eq key (codes "process") && is_name name && is_name image
    then option_map (λ numbers. Process (record { name = name; image = image; sizes = numbers })) sizes
    else None

-- What a line of these words means: `quantum N`, `module NAME FILE` or `process NAME MODULE limit N stack N arg N`.
unfoldable pub run_line : List (List ℕ) → Option RunLine
run_line (key ∷ word ∷ []) = quantum_line key word
run_line (key ∷ name ∷ file ∷ []) = module_line key name file
run_line (key ∷ name ∷ image ∷ numbers) = process_line key name image (sizes_in numbers)
run_line _ = None

abbrev pub quantum_in : RunLine → Option ℕ
quantum_in (Quantum quantum) = Some quantum
quantum_in _ = None

abbrev pub module_in : RunLine → Option ModulePlan
module_in (Module image) = Some image
module_in _ = None

abbrev pub process_in : RunLine → Option ProcessLine
process_in (Process process) = Some process
process_in _ = None

abbrev pub has_module : List ModulePlan → List ℕ → Bool
has_module modules name = list_any (λ image. bytes_eq image.name name) modules

abbrev pub has_process : List ProcessLine → List ℕ → Bool
has_process processes name = list_any (λ process. bytes_eq process.name name) processes

abbrev pub name_or_count : Bool → Bool → Option PlanRule
name_or_count named full = if named then Some Name else (if full then Some Count else None)

-- The rule that a line breaks behind earlier ones.
unfoldable pub run_rule : List RunLine → RunLine → Option PlanRule
run_rule earlier (Quantum quantum) = once (first_given quantum_in earlier)
run_rule earlier (Module image) =
    let modules = filter_map module_in earlier in
    name_or_count (has_module modules image.name) (nat_le MOST_MODULES (length modules))
run_rule earlier (Process process) =
    let processes = filter_map process_in earlier in
    name_or_count (not (has_module (filter_map module_in earlier) process.image) || has_process processes process.name) (nat_le MOST_PROCESSES (length processes))
