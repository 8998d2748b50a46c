use Rattle.std.proofs.Common.{◌≡◌, ◌++◌, drop}
use Rattle.c6x_asm_object.specs.Relocations.{relocation_rows}
use Rattle.c6x_asm_object.proofs.relocating.relocation_table.Given as goal

abbrev pub invariant-loop-entry : goal.invariant-loop-entry
invariant-loop-entry l = l.bytes.items ++ relocation_rows l.numbers (drop l.entry-index l.entries) ≡ relocation_rows l.numbers l.entries
