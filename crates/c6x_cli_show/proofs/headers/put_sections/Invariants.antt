use Rattle.std.proofs.Common.{◌≤◌, drop}
use Rattle.std.specs.List.{flat_map}
use Rattle.c6x_cli_show.specs.Shown.{section_line_in}
use Rattle.c6x_dis.proofs.Behind.{IsBehind}
use Rattle.c6x_cli_show.proofs.headers.put_sections.Given as goal

abbrev pub invariant-loop-section : goal.invariant-loop-section
invariant-loop-section g l = record {
  text : IsBehind (flat_map (section_line_in l.file) l.sections) (g.O.Sink.seen l.fn.out).bytes (flat_map (section_line_in l.file) (drop l.section-index l.sections)) (g.O.Sink.seen l.out).bytes;
  kept : (g.O.Sink.seen l.fn.out).faults ≤ (g.O.Sink.seen l.out).faults;
}
