use Rattle.std.proofs.Common.{◌≡◌}
use Rattle.c6x_base.specs.Search.{found_after}
use Rattle.c6x_base.proofs.breadth.looked_at_all.Given as goal

abbrev pub invariant-loop-place : goal.invariant-loop-place
invariant-loop-place l = l.list.items ≡ found_after l.needs l.start l.place
