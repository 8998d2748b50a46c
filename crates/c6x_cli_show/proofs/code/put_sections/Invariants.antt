use Rattle.std.proofs.Common.{◌≤◌, false, drop}
use Rattle.std.specs.List.{flat_map}
use Rattle.c6x_cli_show.specs.Code.{section_code}
use Rattle.c6x_dis.proofs.Behind.{IsBehind}
use Rattle.c6x_cli_show.proofs.code.put_sections.Given as goal

abbrev pub invariant-loop-section : goal.invariant-loop-section
invariant-loop-section g l = record {
  text : IsBehind (flat_map (section_code false) l.sections) (g.O.Sink.seen l.fn.out).bytes (flat_map (section_code false) (drop l.section-index l.sections)) (g.O.Sink.seen l.out).bytes;
  kept : (g.O.Sink.seen l.fn.out).faults ≤ (g.O.Sink.seen l.out).faults;
}
