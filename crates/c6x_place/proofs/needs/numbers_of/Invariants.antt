use Rattle.std.proofs.Common.{◌≡◌, ◌++◌, drop}
use Rattle.c6x_place.specs.Needs.{numbers_of}
use Rattle.c6x_place.proofs.needs.numbers_of.Given as goal

abbrev pub invariant-loop-name : goal.invariant-loop-name
invariant-loop-name l = l.numbers.items ++ numbers_of l.modules (drop l.name-index l.names) ≡ numbers_of l.modules l.names
