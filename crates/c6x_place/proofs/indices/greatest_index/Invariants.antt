use Rattle.std.proofs.Common.{◌≡◌, drop, max}
use Rattle.c6x_place.specs.Members.{greatest_index}
use Rattle.c6x_place.proofs.indices.greatest_index.Given as goal

abbrev pub invariant-loop-number : goal.invariant-loop-number
invariant-loop-number l = max l.greatest (greatest_index l.modules (drop l.number-index l.list)) ≡ greatest_index l.modules l.list
