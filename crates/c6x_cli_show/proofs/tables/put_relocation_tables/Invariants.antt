use Rattle.std.proofs.Common.{◌≤◌, false, drop}
use Rattle.std.specs.List.{flat_map}
use Rattle.c6x_cli_show.specs.Shown.{table_relas}
use Rattle.c6x_dis.proofs.Behind.{IsBehind}
use Rattle.c6x_cli_show.proofs.tables.put_relocation_tables.Given as goal

abbrev pub invariant-loop-table : goal.invariant-loop-table
invariant-loop-table g l = record {
  text : IsBehind (flat_map (table_relas false) l.sections) (g.O.Sink.seen l.fn.out).bytes (flat_map (table_relas false) (drop l.table-index l.sections)) (g.O.Sink.seen l.out).bytes;
  kept : (g.O.Sink.seen l.fn.out).faults ≤ (g.O.Sink.seen l.out).faults;
}
