use Rattle.std.proofs.Common.{◌≡◌, [], drop, arith}
use Rattle.std.proofs.lemmas.List.{drop_all}
use Rattle.c6x_asm_lines.proofs.DigitLemmas.{digits_value_is}
use Rattle.c6x_asm_lines.proofs.words.digits_value.Goals as goal

pub returns : goal.returns
returns c =
    let end : drop c.loop-digit.digit-index c.args.digits.now ≡ [] = drop_all c.loop-digit.digit-index c.args.digits.now (omega arith) in
    rw (digits_value_is c.args.base c.args.digits.now c.requires.0) (rw end at c.loop-digit.invariant)
