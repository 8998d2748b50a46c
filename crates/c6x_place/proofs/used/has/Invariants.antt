use Rattle.std.proofs.Common.{◌≡◌, drop}
use Rattle.c6x_base.specs.Search.{has}
use Rattle.c6x_place.proofs.used.has.Given as goal

abbrev pub invariant-loop-member : goal.invariant-loop-member
invariant-loop-member l = has (drop l.member-index l.list) l.number ≡ has l.list l.number
