use Rattle.std.proofs.Common.{◌≡◌, ◌++◌, ◌-◌, ◌/◌, length, map}
use Rattle.std.specs.Prelude.{filter}
use Rattle.std.specs.List.{range_with_len}
use Rattle.c6x_elf.specs.TableEntries.{rela_at}
use Rattle.c6x_module.specs.Tables.{is_outside}
use Rattle.c6x_modules.proofs.table_reading.read_jumps.Given as goal

abbrev pub invariant-loop-number : goal.invariant-loop-number
invariant-loop-number l =
    l.jumps.items ++ map (rela_at l.big l.bytes) (filter (is_outside l.at l.from l.count) (range_with_len l.number (length l.bytes / 12 - l.number)))
    ≡ map (rela_at l.big l.bytes) (filter (is_outside l.at l.from l.count) (range_with_len 0 (length l.bytes / 12)))
