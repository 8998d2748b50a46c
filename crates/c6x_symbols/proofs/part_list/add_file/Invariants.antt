use Rattle.std.proofs.Common.{◌≡◌, ◌++◌, take}
use Rattle.std.specs.List.{enumerate_from, flat_map}
use Rattle.c6x_symbols.specs.Parts.{part_at}
use Rattle.c6x_symbols.proofs.part_list.add_file.Given as goal

abbrev pub invariant-loop-number : goal.invariant-loop-number
invariant-loop-number l = (l.parts.items ≡ l.fn.parts.items ++ flat_map (part_at l.object l.file) (enumerate_from 0 (take l.number l.file.sections)))
