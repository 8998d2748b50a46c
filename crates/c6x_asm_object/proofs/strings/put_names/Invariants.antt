use Rattle.std.proofs.Common.{◌≡◌, ◌++◌, drop}
use Rattle.c6x_asm_object.specs.FileNames.{group, name_rows}
use Rattle.c6x_asm_object.proofs.strings.put_names.Given as goal

abbrev pub invariant-loop-symbol : goal.invariant-loop-symbol
invariant-loop-symbol l = l.table ++ name_rows l.text (group l.local (drop l.symbol-index l.symbols)) ≡ l.initial.table ++ name_rows l.text (group l.local l.symbols)
