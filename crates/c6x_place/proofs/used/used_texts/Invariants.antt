use Rattle.std.proofs.Common.{◌≡◌, ◌++◌, drop}
use Rattle.c6x_place.specs.Plans.{used_from}
use Rattle.c6x_place.proofs.used.used_texts.Given as goal

abbrev pub invariant-loop-number : goal.invariant-loop-number
invariant-loop-number l = l.used.items ++ used_from l.bounds l.number (drop l.number l.modules) ≡ used_from l.bounds 0 l.modules
