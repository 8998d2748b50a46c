use Rattle.std.proofs.Common.{◌≡◌, ℕ, arith, subst, sym}
use Rattle.c6x_cli.specs.Sums.{exit_of, sum_of}
use Rattle.c6x_cli.proofs.Totals.{sum_more, sum_none}
use Rattle.c6x_cli.proofs.sums.exits_of.Goals as goal

pub loop-number-init : goal.loop-number-init
loop-number-init c = record {
  fits = omega arith;
  is = λ b s lived. sym (sum_none (λ process. exit_of (s process)));
}

pub exit_of-requires : goal.exit_of-requires
exit_of-requires c = c.requires.ended c.loop-number.number c.process.result.now c.process.ensures

pub loop-number-preserved : goal.loop-number-preserved
loop-number-preserved c = record {
  fits = omega (arith, c.loop-number.invariant.fits);
  is = λ b s lived.
      omega (arith, sum_more c.loop-number.number (λ process. exit_of (s process)), c.loop-number.invariant.is b s lived, c.exit_of.ensures b (s c.loop-number.number) (lived c.loop-number.number c.process.result.now c.process.ensures));
}

pub returns : goal.returns
returns c = λ b s lived.
    let all : c.loop-number.number ≡ c.args.count = omega (arith, c.loop-number-test.false, c.loop-number.auto.number-end) in
    subst (λ (n : ℕ). c.loop-number.sum ≡ sum_of n (λ process. exit_of (s process))) all (c.loop-number.invariant.is b s lived)
