use Rattle.std.proofs.Common.{◌≡◌, drop}
use Rattle.c6x_spec.specs.Firsts.{first_along}
use Rattle.c6x_module.specs.Shape.{init_refusal}
use Rattle.c6x_module.proofs.shape.check_inits.Given as goal

abbrev pub invariant-loop-entry : goal.invariant-loop-entry
invariant-loop-entry l = first_along init_refusal (drop l.entry-index l.entries) ≡ first_along init_refusal l.entries
