use Rattle.c6x_place.proofs.OnePlacement.{one_placement}
use Rattle.c6x_place.proofs.laws.one_placement.Goals as goal

pub returns : goal.returns
returns c = one_placement
