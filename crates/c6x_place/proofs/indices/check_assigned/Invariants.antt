use Rattle.std.proofs.Common.{◌≡◌, drop}
use Rattle.c6x_spec.specs.Firsts.{first_along}
use Rattle.c6x_place.specs.Binding.{unassigned_refusal}
use Rattle.c6x_place.proofs.indices.check_assigned.Given as goal

abbrev pub invariant-loop-number : goal.invariant-loop-number
invariant-loop-number l = first_along (unassigned_refusal l.modules l.process l.called) (drop l.number-index l.list) ≡ first_along (unassigned_refusal l.modules l.process l.called) l.list
