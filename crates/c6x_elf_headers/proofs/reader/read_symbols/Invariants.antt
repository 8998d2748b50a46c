use Rattle.std.proofs.Common.{◌≡◌, map}
use Rattle.std.specs.List.{range_with_len}
use Rattle.c6x_elf_headers.specs.Entries.{symbol_at}
use Rattle.c6x_elf_headers.proofs.reader.read_symbols.Given as goal

abbrev pub invariant-loop-number : goal.invariant-loop-number
invariant-loop-number l = l.symbols.items ≡ map (symbol_at l.big l.table) (range_with_len 0 l.number)
