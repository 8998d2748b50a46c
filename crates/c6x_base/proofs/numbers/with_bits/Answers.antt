use Rattle.c6x_base.proofs.Patched.{or_patched}
use Rattle.c6x_base.proofs.numbers.with_bits.Goals as goal

pub returns : goal.returns
returns c = rw (c.above.ensures, c.below.ensures) (or_patched _ _ _ _ c.requires.within c.requires.fits)
