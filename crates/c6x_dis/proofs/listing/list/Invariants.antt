use Rattle.std.proofs.Common.{◌-◌, ◌/◌, ◌≤◌, false, length}
use Rattle.std.specs.List.{flat_map, range_with_len}
use Rattle.c6x_dis.specs.Listed.{listed, numbered_line}
use Rattle.c6x_dis.proofs.Behind.{IsBehind}
use Rattle.c6x_dis.proofs.listing.list.Given as goal

abbrev pub invariant-loop-number : goal.invariant-loop-number
invariant-loop-number g l = record {
  text : IsBehind (listed false l.bytes l.at) (g.O.Sink.seen l.fn.sink).bytes (flat_map (numbered_line false l.bytes l.at) (range_with_len l.number (length l.bytes / 4 - l.number))) (g.O.Sink.seen l.sink).bytes;
  kept : (g.O.Sink.seen l.fn.sink).faults ≤ (g.O.Sink.seen l.sink).faults;
}
