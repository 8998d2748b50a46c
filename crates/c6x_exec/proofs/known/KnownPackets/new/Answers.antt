use Rattle.std.proofs.Common.{refl}
use Rattle.c6x_exec.proofs.Knowing.{none_known}
use Rattle.c6x_exec.proofs.known.KnownPackets.new.Goals as goal

pub invariant_of-result : goal.invariant_of-result
invariant_of-result c = (refl, none_known _ refl refl refl 64)
