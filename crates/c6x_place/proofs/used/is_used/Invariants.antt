use Rattle.std.proofs.Common.{◌≡◌, drop}
use Rattle.c6x_place.specs.Plans.{is_used}
use Rattle.c6x_place.proofs.used.is_used.Given as goal

abbrev pub invariant-loop-bound : goal.invariant-loop-bound
invariant-loop-bound l = is_used (drop l.bound-index l.bounds) l.number ≡ is_used l.bounds l.number
