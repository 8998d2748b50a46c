use Rattle.std.proofs.Common.{◌≡◌, ◌-◌, ◌/◌, length}
use Rattle.std.specs.List.{range_with_len}
use Rattle.c6x_elf_headers.specs.Rules.{first_along}
use Rattle.c6x_elf.specs.Entries.{rela_refusal}
use Rattle.c6x_elf.proofs.names.check_relas.Given as goal

abbrev pub invariant-loop-k : goal.invariant-loop-k
invariant-loop-k l =
    first_along (rela_refusal l.big l.sections l.head l.table) (range_with_len l.k (length l.table / 12 - l.k))
    ≡ first_along (rela_refusal l.big l.sections l.head l.table) (range_with_len 0 (length l.table / 12))
