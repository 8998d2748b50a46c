use Rattle.std.proofs.Common.{◌-◌, ◌/◌, ◌≤◌, false, length, map}
use Rattle.std.specs.List.{flat_map, range_with_len}
use Rattle.c6x_elf.specs.TableEntries.{dynamic_at}
use Rattle.c6x_module.specs.Entries.{entries_of, until_null}
use Rattle.c6x_cli_show.specs.Lines.{tag_line}
use Rattle.c6x_dis.proofs.Behind.{IsBehind}
use Rattle.c6x_cli_show.proofs.tables.put_tags.Given as goal

abbrev pub invariant-loop-number : goal.invariant-loop-number
invariant-loop-number g l = record {
  text : IsBehind (flat_map tag_line (entries_of false l.table)) (g.O.Sink.seen l.fn.out).bytes (flat_map tag_line (until_null (map (dynamic_at false l.table) (range_with_len l.number (length l.table / 8 - l.number))))) (g.O.Sink.seen l.out).bytes;
  kept : (g.O.Sink.seen l.fn.out).faults ≤ (g.O.Sink.seen l.out).faults;
}
