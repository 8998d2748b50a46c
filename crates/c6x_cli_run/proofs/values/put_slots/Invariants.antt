use Rattle.std.specs.Prelude.{◌≤◌}
use Rattle.c6x_spec.specs.Sinks.{Takes}
use Rattle.c6x_cli_run.specs.Held.{held_slot}
use Rattle.c6x_cli_run.specs.Lines.{lines_below}
use Rattle.c6x_cli_run.proofs.values.put_slots.Given as goal

abbrev pub invariant-loop-index : goal.invariant-loop-index
invariant-loop-index g l = record {
  taken : Takes (lines_below (held_slot l.board l.process l.image l.base) l.index) (g.O.Sink.seen l.fn.out).bytes (g.O.Sink.seen l.out).bytes;
  kept : (g.O.Sink.seen l.fn.out).faults ≤ (g.O.Sink.seen l.out).faults;
}
