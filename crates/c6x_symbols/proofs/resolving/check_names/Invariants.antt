use Rattle.std.proofs.Common.{◌≡◌, drop}
use Rattle.c6x_symbols.specs.Bindings.{bound_refusal}
use Rattle.c6x_symbols.specs.Rules.{first_along}
use Rattle.c6x_symbols.proofs.resolving.check_names.Given as goal

abbrev pub invariant-loop-number : goal.invariant-loop-number
invariant-loop-number l = first_along bound_refusal (drop l.number l.bindings) ≡ first_along bound_refusal l.bindings
