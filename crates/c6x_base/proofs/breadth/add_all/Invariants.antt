use Rattle.std.proofs.Common.{◌≡◌, drop}
use Rattle.c6x_base.specs.Search.{joined}
use Rattle.c6x_base.proofs.breadth.add_all.Given as goal

abbrev pub invariant-loop-number : goal.invariant-loop-number
invariant-loop-number l = joined l.list.items (drop l.number-index l.numbers) ≡ joined l.fn.list.items l.numbers
