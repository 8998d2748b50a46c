use Rattle.std.proofs.Common.{◌≡◌, ◌++◌, false, drop}
use Rattle.c6x_elf.specs.EntryRows.{rela_rows}
use Rattle.c6x_layout.proofs.entries.rela_bytes.Given as goal

abbrev pub invariant-loop-rela : goal.invariant-loop-rela
invariant-loop-rela l = l.bytes.items ++ rela_rows false (drop l.rela-index l.relas) ≡ rela_rows false l.relas
