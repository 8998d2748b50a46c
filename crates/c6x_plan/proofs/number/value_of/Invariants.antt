use Rattle.std.proofs.Common.{◌≡◌, ◌^◌, ◌+◌, ◌*◌, ◌≤◌, take}
use Rattle.std.specs.List.{fold}
use Rattle.c6x_plan.specs.Words.{with_digit}
use Rattle.c6x_plan.proofs.number.value_of.Given as goal

abbrev pub invariant-loop-digit : goal.invariant-loop-digit
invariant-loop-digit l = record {
  value : l.value ≡ fold with_digit 0 (take l.digit-index l.digits);
  below : l.value + 23 ≤ 23 * 10 ^ l.digit-index;
}
