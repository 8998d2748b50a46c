use Rattle.std.proofs.Common.{arith, rules}
use Rattle.c6x_spec.proofs.Puts.{front_of_pieces, on_err}
use Rattle.c6x_ports.proofs.Rises.{Rose-later}
use Rattle.c6x_ports.proofs.parts.put_parts.Goals as goal

pub returns-in_err-put : goal.returns-in_err-put
returns-in_err-put g c = record {
  all = search rules;
  front = on_err _ (front_of_pieces (λ part. part.now) c.args.parts.now c.loop-part.part-index _ _ _ _ c.loop-part-test.true c.loop-part.invariant.taken c.in_err-put.ensures.puts.front);
  failed = on_err _ (Rose-later _ _ _ c.loop-part.invariant.kept c.in_err-put.ensures.puts.failed);
  kept = omega (arith, c.loop-part.invariant.kept, c.in_err-put.ensures.puts.kept);
}
