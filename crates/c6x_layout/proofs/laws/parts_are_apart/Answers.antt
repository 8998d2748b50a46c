use Rattle.c6x_layout.proofs.PartsApart.{apart}
use Rattle.c6x_layout.proofs.laws.parts_are_apart.Goals as goal

pub returns : goal.returns
returns c = apart
