use Rattle.std.proofs.Common.{◌≡◌, drop}
use Rattle.c6x_place.specs.Needs.{named_from}
use Rattle.c6x_place.proofs.needs.number_of.Given as goal

abbrev pub invariant-loop-number : goal.invariant-loop-number
invariant-loop-number l = named_from l.name l.number (drop l.number l.modules) ≡ named_from l.name 0 l.modules
