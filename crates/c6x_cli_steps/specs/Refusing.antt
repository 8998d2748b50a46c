-- The stop of a command at what a plan's reader answers.
use Rattle.std.specs.Prelude.{ℕ, List}
use Rattle.c6x_plan.specs.declared.plan_error.PlanError.{PlanError}
use Rattle.c6x_plan.specs.declared.plan_error.PlanError.TheVariants.{Syntax as SyntaxAt, Name as NameAt, Count as CountAt, NoMemory}
use Rattle.c6x_plan.specs.PlanRules.{Syntax, Name, Count, broken_at}
use Rattle.c6x_cli_steps.specs.declared.prepare_error.PrepareError.{PrepareError}
use Rattle.c6x_cli_steps.specs.declared.prepare_error.PrepareError.TheVariants.{Because, ReadFault, Memory}
use Rattle.c6x_cli_steps.specs.Steps.{Refuses}
use Rattle.c6x_cli_steps.specs.Plans.{broken_plan}

-- An error is memory.
abbrev pub IsMemory : PrepareError → Type 0
IsMemory Memory = Unit {0}
IsMemory (Because _) = ⊥
IsMemory (ReadFault _) = ⊥

-- An error is the refusal of the rule that a plan's text breaks, or want of memory.
abbrev pub RefusesPlan : PrepareError → List ℕ → PlanError → Type 0
RefusesPlan error name (SyntaxAt line) = Refuses error (broken_plan name (broken_at line Syntax))
RefusesPlan error name (NameAt line) = Refuses error (broken_plan name (broken_at line Name))
RefusesPlan error name (CountAt line) = Refuses error (broken_plan name (broken_at line Count))
RefusesPlan error name NoMemory = IsMemory error
