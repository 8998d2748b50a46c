use Rattle.std.proofs.Common.{◌≡◌, drop}
use Rattle.c6x_spec.specs.Firsts.{first_along}
use Rattle.c6x_place.specs.Binding.{slots_refusal}
use Rattle.c6x_place.proofs.indices.check_slots.Given as goal

abbrev pub invariant-loop-number : goal.invariant-loop-number
invariant-loop-number l = first_along (slots_refusal l.modules l.process l.called l.greatest) (drop l.number-index l.list) ≡ first_along (slots_refusal l.modules l.process l.called l.greatest) l.list
