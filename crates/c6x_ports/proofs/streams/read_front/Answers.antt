use Rattle.std.proofs.Common.{arith}
use Rattle.std.proofs.lemmas.Grind.{common_steps}
use Rattle.c6x_ports.proofs.Carried.{HasGiven-read, HasGiven-kept, given_front, front_at_stop, front_at_limit}
use Rattle.c6x_ports.proofs.streams.read_front.Goals as goal

pub loop-chunk-preserved : goal.loop-chunk-preserved
loop-chunk-preserved g c = record {
  within = grind (arith, common_steps, c.in-Ok.ensures.bound, c.in_ok-extend_from_slice-in-Ok.ensures.len);
  told = λ left is. rw c.in_ok-extend_from_slice-in-Ok.ensures.items (HasGiven-read left _ _ _ _ (c.loop-chunk.invariant.told left is) c.in-Ok.ensures.bytes.0);
}

pub returns-in-Ok-eq0-clause-front : goal.returns-in-Ok-eq0-clause-front
returns-in-Ok-eq0-clause-front g c left is =
    front_at_stop left _ _ _ _ _ _ (omega (arith, c.loop-chunk.all.ok.0)) (c.loop-chunk.invariant.told left is) c.in-Ok-eq0.field-0-test c.in-Ok-eq0.ensures.bytes.0 (c.in-Ok-eq0.ensures.bytes.1 c.in-Ok-eq0.field-0-test (grind (arith, common_steps)))

pub returns-clause-front : goal.returns-clause-front
returns-clause-front g c left is = front_at_limit left _ _ _ (omega (arith, c.loop-chunk.all.ok.0)) (c.loop-chunk.invariant.told left is)

pub returns-in-Err-clause-given : goal.returns-in-Err-clause-given
returns-in-Err-clause-given g c left is =
    given_front left _ _ _ (omega (arith, c.loop-chunk.all.ok.0, c.loop-chunk.invariant.within)) (HasGiven-kept left _ _ _ (c.loop-chunk.invariant.told left is) c.in-Err.ensures.bytes)

pub returns-in-Ok-eq0-clause-given : goal.returns-in-Ok-eq0-clause-given
returns-in-Ok-eq0-clause-given g c left is =
    given_front left _ _ _ (grind (arith, common_steps, c.in-Ok-eq0.field-0-test, c.loop-chunk.all.ok.0, c.loop-chunk.invariant.within))
    (HasGiven-read left _ _ _ _ (c.loop-chunk.invariant.told left is) c.in-Ok-eq0.ensures.bytes.0)

pub returns-in_err-extend_from_slice-in-Ok-clause-given : goal.returns-in_err-extend_from_slice-in-Ok-clause-given
returns-in_err-extend_from_slice-in-Ok-clause-given g c left is =
    given_front left _ _ _ (grind (arith, common_steps, c.in-Ok.ensures.bound, c.loop-chunk.all.ok.0, c.loop-chunk.invariant.within))
    (HasGiven-read left _ _ _ _ (c.loop-chunk.invariant.told left is) c.in-Ok.ensures.bytes.0)

pub returns-clause-given : goal.returns-clause-given
returns-clause-given g c left is =
    given_front left _ _ _ (omega (arith, c.loop-chunk.all.ok.0, c.loop-chunk.invariant.within)) (c.loop-chunk.invariant.told left is)
