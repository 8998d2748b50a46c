use Rattle.std.specs.Prelude.{◌≡◌, ◌+◌, ◌≤◌, ◌++◌, length, take}
use Rattle.c6x_base.proofs.line.Line.push.Given as goal

abbrev pub invariant-loop-byte : goal.invariant-loop-byte
invariant-loop-byte l = record {
  fits : l.self-inside.len + length l.bytes ≤ 256 + l.byte-index;
  holds : take l.self-inside.len l.self-inside.buffer ≡ l.fn.self ++ take l.byte-index l.bytes;
}
