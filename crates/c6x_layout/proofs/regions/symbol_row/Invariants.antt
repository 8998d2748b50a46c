use Rattle.std.proofs.Common.{◌≡◌, map, take}
use Rattle.c6x_layout.specs.RegionRows.{symbol_in_row}
use Rattle.c6x_layout.proofs.regions.symbol_row.Given as goal

abbrev pub invariant-loop-symbol : goal.invariant-loop-symbol
invariant-loop-symbol l = (l.row ≡ map (symbol_in_row l.sections) (take l.symbol-index l.symbol-items))
