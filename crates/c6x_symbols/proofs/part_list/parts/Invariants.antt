use Rattle.std.proofs.Common.{◌≡◌, take}
use Rattle.std.specs.List.{enumerate_from, flat_map}
use Rattle.c6x_symbols.specs.Parts.{file_parts}
use Rattle.c6x_symbols.proofs.part_list.parts.Given as goal

abbrev pub invariant-loop-number : goal.invariant-loop-number
invariant-loop-number l = (l.parts.items ≡ flat_map file_parts (enumerate_from 0 (take l.number l.objects)))
