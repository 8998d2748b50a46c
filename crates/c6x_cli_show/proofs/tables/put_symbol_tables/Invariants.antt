use Rattle.std.proofs.Common.{◌≤◌, false, drop}
use Rattle.std.specs.List.{flat_map}
use Rattle.c6x_cli_show.specs.Shown.{table_symbols}
use Rattle.c6x_dis.proofs.Behind.{IsBehind}
use Rattle.c6x_cli_show.proofs.tables.put_symbol_tables.Given as goal

abbrev pub invariant-loop-table : goal.invariant-loop-table
invariant-loop-table g l = record {
  text : IsBehind (flat_map (table_symbols false l.sections) l.sections) (g.O.Sink.seen l.fn.out).bytes (flat_map (table_symbols false l.sections) (drop l.table-index l.sections)) (g.O.Sink.seen l.out).bytes;
  kept : (g.O.Sink.seen l.fn.out).faults ≤ (g.O.Sink.seen l.out).faults;
}
