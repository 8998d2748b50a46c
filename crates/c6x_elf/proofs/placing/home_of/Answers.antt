use Rattle.std.proofs.Common.{◌∙◌, sym, true, arith}
use Rattle.c6x_elf.proofs.Spots.{home_more, within_more}
use Rattle.c6x_elf.proofs.placing.home_of.Goals as goal

pub loop-k-preserved : goal.loop-k-preserved
loop-k-preserved c = record {
  rest = sym (home_more c.args.segment.now c.args.earlier.now c.args.had.now c.loop-k.k c.index-earlier-k.result
      (record { at = 0; fresh = true }) (omega arith) (omega arith) c.index-earlier-k.is (sym c.if-is_inside.ensures.value)) ∙ c.loop-k.invariant.rest;
  within = within_more c.args.earlier.now c.args.had.now c.loop-k.k c.index-earlier-k.result
      (record { at = 0; fresh = true }) (omega arith) (omega arith) c.loop-k.invariant.within;
}
