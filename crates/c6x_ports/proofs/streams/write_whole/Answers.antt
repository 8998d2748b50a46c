use Rattle.std.proofs.Common.{arith}
use Rattle.std.proofs.lemmas.Grind.{common_steps}
use Rattle.c6x_ports.proofs.Carried.{wrote}
use Rattle.c6x_ports.proofs.streams.write_whole.Goals as goal

pub loop-done-preserved : goal.loop-done-preserved
loop-done-preserved g c = record {
  within = grind (arith, common_steps, c.in-Ok.ensures.bound);
  told = λ had is. wrote had _ _ _ _ _ _ (c.loop-done.invariant.told had is) (grind (arith, common_steps)) c.in-Ok.ensures.bytes;
}
