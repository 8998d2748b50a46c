use Rattle.std.proofs.Common.{◌≡◌, map, take}
use Rattle.c6x_link.specs.Symbols.{symbols_in}
use Rattle.c6x_link.proofs.symbol_rows.symbol_rows.Given as goal

abbrev pub invariant-loop-object : goal.invariant-loop-object
invariant-loop-object l = (l.rows.items ≡ map symbols_in (take l.object-index l.objects))
