use Rattle.std.proofs.Common.{◌≡◌, take, map}
use Rattle.c6x_place.specs.Needs.{needs_row}
use Rattle.c6x_place.proofs.needs.needs_of.Given as goal

abbrev pub invariant-loop-image : goal.invariant-loop-image
invariant-loop-image l = l.needs.items ≡ map (needs_row l.modules) (take l.image-index l.modules)
