use Rattle.std.proofs.Common.{◌≡◌, [], drop}
use Rattle.c6x_place.specs.Binding.{duplicates}
use Rattle.c6x_place.proofs.indices.check_distinct.Given as goal

abbrev pub invariant-loop-number : goal.invariant-loop-number
invariant-loop-number l = duplicates l.modules l.process l.called l.earlier.items (drop l.number-index l.list) ≡ duplicates l.modules l.process l.called [] l.list
