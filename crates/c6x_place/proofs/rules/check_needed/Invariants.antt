use Rattle.std.proofs.Common.{◌≡◌, drop}
use Rattle.c6x_spec.specs.Firsts.{first_along}
use Rattle.c6x_place.specs.Binding.{name_refusal}
use Rattle.c6x_place.specs.Members.{needed_of}
use Rattle.c6x_place.proofs.rules.check_needed.Given as goal

abbrev pub invariant-loop-name : goal.invariant-loop-name
invariant-loop-name l = first_along (name_refusal l.modules l.process l.number) (drop l.name-index (needed_of l.modules l.number)) ≡ first_along (name_refusal l.modules l.process l.number) (needed_of l.modules l.number)
