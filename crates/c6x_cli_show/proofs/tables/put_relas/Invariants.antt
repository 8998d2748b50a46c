use Rattle.std.proofs.Common.{◌-◌, ◌/◌, ◌≤◌, false, length, map}
use Rattle.std.specs.List.{flat_map, range_with_len}
use Rattle.c6x_elf.specs.TableEntries.{rela_at, rela_entries}
use Rattle.c6x_cli_show.specs.Lines.{rela_line}
use Rattle.c6x_dis.proofs.Behind.{IsBehind}
use Rattle.c6x_cli_show.proofs.tables.put_relas.Given as goal

abbrev pub invariant-loop-number : goal.invariant-loop-number
invariant-loop-number g l = record {
  text : IsBehind (flat_map rela_line (rela_entries false l.table)) (g.O.Sink.seen l.fn.out).bytes (flat_map rela_line (map (rela_at false l.table) (range_with_len l.number (length l.table / 12 - l.number)))) (g.O.Sink.seen l.out).bytes;
  kept : (g.O.Sink.seen l.fn.out).faults ≤ (g.O.Sink.seen l.out).faults;
}
