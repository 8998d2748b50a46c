use Rattle.std.proofs.Common.{◌≡◌, ◌+◌, ◌≤◌, drop, min, ◌-◌, ◌^◌}
use Rattle.c6x_place.specs.Members.{all_fields}
use Rattle.c6x_place.proofs.rules.count_fields.Given as goal

abbrev pub invariant-loop-number : goal.invariant-loop-number
invariant-loop-number l = record {
  counted : min (l.count + all_fields l.modules (drop l.number-index l.list)) (2 ^ 64 - 1) ≡ min (all_fields l.modules l.list) (2 ^ 64 - 1);
  fits : l.count ≤ 2 ^ 64 - 1;
}
