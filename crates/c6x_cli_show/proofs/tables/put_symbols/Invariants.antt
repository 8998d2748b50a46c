use Rattle.std.proofs.Common.{◌-◌, ◌/◌, ◌≤◌, false, length, map}
use Rattle.std.specs.List.{flat_map, range_with_len}
use Rattle.c6x_elf.specs.TableEntries.{symbol_at, symbol_entries}
use Rattle.c6x_cli_show.specs.Lines.{symbol_line_in}
use Rattle.c6x_dis.proofs.Behind.{IsBehind}
use Rattle.c6x_cli_show.proofs.tables.put_symbols.Given as goal

abbrev pub invariant-loop-number : goal.invariant-loop-number
invariant-loop-number g l = record {
  text : IsBehind (flat_map (symbol_line_in l.strings) (symbol_entries false l.table)) (g.O.Sink.seen l.fn.out).bytes (flat_map (symbol_line_in l.strings) (map (symbol_at false l.table) (range_with_len l.number (length l.table / 16 - l.number)))) (g.O.Sink.seen l.out).bytes;
  kept : (g.O.Sink.seen l.fn.out).faults ≤ (g.O.Sink.seen l.out).faults;
}
