use Rattle.std.proofs.Common.{◌≡◌, ◌++◌, ◌-◌, ◌/◌, length, map}
use Rattle.std.specs.List.{range_with_len}
use Rattle.c6x_elf.specs.TableEntries.{dynamic_at}
use Rattle.c6x_module.specs.Entries.{until_null}
use Rattle.c6x_module.proofs.entries.read_entries.Given as goal

abbrev pub invariant-loop-number : goal.invariant-loop-number
invariant-loop-number l =
    l.entries.items ++ until_null (map (dynamic_at l.big l.table) (range_with_len l.number (length l.table / 8 - l.number)))
    ≡ until_null (map (dynamic_at l.big l.table) (range_with_len 0 (length l.table / 8)))
