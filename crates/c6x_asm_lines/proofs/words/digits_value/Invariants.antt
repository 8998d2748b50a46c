use Rattle.std.proofs.Common.{◌≡◌, Some, drop}
use Rattle.c6x_asm_lines.specs.Digits.{continued}
use Rattle.c6x_asm_lines.proofs.words.digits_value.Given as goal

abbrev pub invariant-loop-digit : goal.invariant-loop-digit
invariant-loop-digit l = continued l.base l.value (drop l.digit-index l.digits) ≡ continued l.base (Some 0) l.digits
