use Rattle.std.proofs.Common.{◌≤◌, take}
use Rattle.std.specs.List.{flat_map}
use Rattle.c6x_spec.specs.Sinks.{Takes}
use Rattle.c6x_ports.proofs.parts.put_parts.Given as goal

abbrev pub invariant-loop-part : goal.invariant-loop-part
invariant-loop-part g l = record {
  taken : Takes (flat_map (λ part. part.now) (take l.part-index l.parts)) (g.O.Sink.seen l.fn.sink).bytes (g.O.Sink.seen l.sink).bytes;
  kept : (g.O.Sink.seen l.fn.sink).faults ≤ (g.O.Sink.seen l.sink).faults;
}
