use Rattle.std.proofs.Common.{◌≡◌, ℕ, arith, subst, sym}
use Rattle.c6x_machine.specs.Machine.{life}
use Rattle.c6x_cli.specs.Sums.{sum_of}
use Rattle.c6x_cli.proofs.Totals.{sum_more, sum_none}
use Rattle.c6x_cli.proofs.sums.cycles_of.Goals as goal

pub loop-number-init : goal.loop-number-init
loop-number-init c = record {
  fits = omega arith;
  is = λ b s lived. sym (sum_none (λ process. life (s process)));
}

pub loop-number-preserved : goal.loop-number-preserved
loop-number-preserved c = record {
  fits = omega (arith, c.loop-number.invariant.fits);
  is = λ b s lived.
      let one = lived c.loop-number.number c.process.result.now c.process.ensures in
      omega (arith, sum_more c.loop-number.number (λ process. life (s process)), c.loop-number.invariant.is b s lived, c.cycles.ensures.ran b (s c.loop-number.number) one.ended.end one.ran);
}

pub returns : goal.returns
returns c = λ b s lived.
    let all : c.loop-number.number ≡ c.args.count = omega (arith, c.loop-number-test.false, c.loop-number.auto.number-end) in
    subst (λ (n : ℕ). c.loop-number.sum ≡ sum_of n (λ process. life (s process))) all (c.loop-number.invariant.is b s lived)
