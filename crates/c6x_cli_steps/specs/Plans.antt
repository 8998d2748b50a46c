-- What plans come to that commands read.
use Rattle.std.specs.Prelude.{ℕ, List, codes, Result, Ok, Err}
use Rattle.c6x_spec.specs.Files.{Files}
use Rattle.c6x_plan.specs.declared.link_plan.LinkPlan.{LinkPlan}
use Rattle.c6x_plan.specs.declared.run_plan.RunPlan.{RunPlan}
use Rattle.c6x_plan.specs.LinkPlans.{link_plan}
use Rattle.c6x_plan.specs.PlanRules.{Broken, PlanRule, Syntax, Name, Count}
use Rattle.c6x_plan.specs.RunPlans.{run_plan}
use Rattle.c6x_cli_steps.specs.declared.cause.Cause.{Cause}
use Rattle.c6x_cli_steps.specs.declared.cause.Cause.TheVariants.{Refused}
use Rattle.c6x_cli_steps.specs.declared.cause.Refusal.{Refusal}
use Rattle.c6x_cli_steps.specs.Lines.{whole_file}
use Rattle.c6x_cli_steps.specs.Steps.{Steps, ◌>>=◌, own}

-- The code and the word of a rule of plans.
unfoldable pub plan_words : PlanRule → List ℕ
plan_words Syntax = codes "N1 Syntax"
plan_words Name = codes "N2 Name"
plan_words Count = codes "N3 Count"

-- The refusal of a plan: the rule that its text breaks, and the line.
abbrev pub broken_plan : List ℕ → Broken → Refusal
broken_plan name broken = record { rule = plan_words broken.rule; subject = name; number = broken.line }

abbrev pub or_bad_plan : {A : Type 0} → List ℕ → Result A Broken → Result A Cause
or_bad_plan name (Ok plan) = Ok plan
or_bad_plan name (Err broken) = Err (Refused (broken_plan name broken))

-- The link plan of this name.
unfoldable pub link_plan_steps : Files → List ℕ → Steps LinkPlan
link_plan_steps files name = do
  text ← whole_file files name
  own (or_bad_plan name (link_plan text))

-- The plan of this name.
unfoldable pub run_plan_steps : Files → List ℕ → Steps RunPlan
run_plan_steps files name = do
  text ← whole_file files name
  own (or_bad_plan name (run_plan text))
