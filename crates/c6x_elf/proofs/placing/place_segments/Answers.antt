use Rattle.std.proofs.Common.{ap, length, arith}
use Rattle.std.proofs.lemmas.List.{length-take-le, length_push}
use Rattle.c6x_elf.proofs.Spots.{place_past, spots_end_pushed, spots_pushed, within_pushed}
use Rattle.c6x_elf.proofs.placing.place_segments.Goals as goal

pub returns-in-None-clause-past : goal.returns-in-None-clause-past
returns-in-None-clause-past c =
    place_past c.args.segments.now c.loop-k.had.items c.loop-k.from c.loop-k.k c.index-segments-k.result _
    (omega arith) c.index-segments-k.is c.loop-k.invariant.end
    (rw c.deref.ensures.value at c.in-None.ensures.past)

pub loop-k-preserved : goal.loop-k-preserved
loop-k-preserved c =
    let made = rw c.deref.ensures.value at c.in-Some.ensures.spot in
    let pushed = c.in_ok-push-in-Some.ensures.items in
    record {
      spots = spots_pushed c.args.segments.now c.loop-k.had.items c.push.new.self.items c.loop-k.from c.loop-k.k
          c.index-segments-k.result c.in-Some.spot c.end_of-from.result _ (omega arith) c.index-segments-k.is made pushed
          c.end_of-from.ensures c.loop-k.invariant.spots;
      end = spots_end_pushed c.args.segments.now c.loop-k.had.items c.push.new.self.items c.loop-k.from c.loop-k.k
          c.index-segments-k.result c.in-Some.spot c.end_of-from.result _ (omega arith) c.index-segments-k.is made pushed
          c.end_of-from.ensures c.loop-k.invariant.end;
      few = omega (arith, c.end_of-from.ensures, c.in-Some.ensures.end);
      same = omega (arith, ap length pushed, length_push c.loop-k.had.items c.in-Some.spot, c.loop-k.invariant.same);
      within = within_pushed c.args.segments.now c.loop-k.had.items c.push.new.self.items c.loop-k.k
          c.index-segments-k.result c.in-Some.spot (omega arith) c.index-segments-k.is
          (omega (arith, c.loop-k.invariant.same, length-take-le c.loop-k.k c.args.segments.now)) pushed
          c.loop-k.invariant.within c.in-Some.ensures.within;
    }
