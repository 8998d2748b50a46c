use Rattle.std.proofs.Common.{◌≡◌, drop}
use Rattle.c6x_spec.specs.Firsts.{first_along}
use Rattle.c6x_place.specs.Binding.{missing_refusal}
use Rattle.c6x_place.proofs.rules.check_missing.Given as goal

abbrev pub invariant-loop-number : goal.invariant-loop-number
invariant-loop-number l = first_along (missing_refusal l.modules l.process) (drop l.number-index l.list) ≡ first_along (missing_refusal l.modules l.process) l.list
