use Rattle.std.proofs.Common.{◌≡◌, take}
use Rattle.c6x_elf.specs.Entries.{name_end}
use Rattle.c6x_modules.proofs.names.name_end.Given as goal

abbrev pub invariant-loop-i : goal.invariant-loop-i
invariant-loop-i l = l.end ≡ name_end (take l.i l.text)
