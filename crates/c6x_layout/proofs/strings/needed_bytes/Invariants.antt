use Rattle.std.proofs.Common.{◌≡◌, ◌*◌, ◌≤◌, take}
use Rattle.c6x_layout.specs.Shared.{rows_size}
use Rattle.c6x_layout.proofs.strings.needed_bytes.Given as goal

abbrev pub invariant-loop-name : goal.invariant-loop-name
invariant-loop-name l = record {
  bytes : l.bytes ≡ rows_size (take l.name-index l.names);
  few : l.bytes ≤ 65 * l.name-index;
}
