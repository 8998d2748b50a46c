use Rattle.std.proofs.Common.{◌≡◌, rules, sym, subst}
use Rattle.c6x_gen.specs.Generated.{generated}
use Rattle.c6x_gen.specs.Limits.{IsWithin}
use Rattle.c6x_gen.specs.declared.generated.Generated.{Generated}
use Rattle.c6x_gen.proofs.Within.{generated_within}
use Rattle.c6x_gen.proofs.planning.plan_of.Goals as goal

pub returns-clause-within : goal.returns-clause-within
unfolding generated
returns-clause-within c =
    let made : Generated = record { sources = c.in_ok-sources_of.field-0; links = c.in_ok-links_of.field-0; plan = c.in_ok-run_plan_of.field-0 } in
    let is : made ≡ generated c.args.number = search rules in
    subst IsWithin (sym is) (generated_within c.args.number)
