use Rattle.std.proofs.Common.{◌≡◌, ◌*◌, ◌^◌, ◌≤◌, length, take}
use Rattle.std.specs.List.{enumerate_from, flat_map}
use Rattle.c6x_layout.specs.Dynamics.{file_filled}
use Rattle.c6x_layout.proofs.counting.filled_fields.Given as goal

abbrev pub invariant-loop-number : goal.invariant-loop-number
invariant-loop-number l = record {
  count : l.count ≡ length (flat_map (file_filled l.objects l.bindings) (enumerate_from 0 (take l.number l.objects)));
  few : l.count ≤ 2 ^ 25 * l.number;
}
