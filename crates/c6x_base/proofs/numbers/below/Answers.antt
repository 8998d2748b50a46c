use Rattle.std.proofs.lemmas.Nat.{and_mask}
use Rattle.c6x_base.proofs.numbers.below.Goals as goal

pub returns : goal.returns
returns c = rw c.low_mask.ensures (and_mask _ _)
