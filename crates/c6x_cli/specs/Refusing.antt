-- The stop of `ld` at what the linker answers.
use Rattle.std.specs.Prelude.{ℕ, List}
use Rattle.c6x_plan.specs.declared.link_plan.LinkPlan.{LinkPlan}
use Rattle.c6x_symbols.specs.declared.link_error.LinkError.{LinkError}
use Rattle.c6x_symbols.specs.declared.link_error.LinkError.TheVariants.{Rule, NoMemory}
use Rattle.c6x_cli_steps.specs.declared.prepare_error.PrepareError.{PrepareError}
use Rattle.c6x_cli_steps.specs.Steps.{Refuses}
use Rattle.c6x_cli_steps.specs.Refusing.{IsMemory}
use Rattle.c6x_cli.specs.Linking.{broken_link}

-- An error is the refusal of the rule that a link breaks, or want of memory.
abbrev pub RefusesLink : PrepareError → List ℕ → LinkPlan → LinkError → Type 0
RefusesLink error name plan (Rule rule object place symbol) =
    Refuses error (broken_link name plan (record { rule = rule; object = object; place = place; name = symbol }))
RefusesLink error name plan NoMemory = IsMemory error
