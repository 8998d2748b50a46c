use Rattle.std.proofs.Common.{◌≡◌, map, take}
use Rattle.std.specs.List.{enumerate_from}
use Rattle.c6x_symbols.specs.Bindings.{name_in}
use Rattle.c6x_dsbt.specs.Wanted.{wanted_by}
use Rattle.c6x_dsbt.proofs.wanting.wanted_symbols.Given as goal

abbrev pub invariant-loop-number : goal.invariant-loop-number
invariant-loop-number l = (l.wanted.items ≡ map (wanted_by (map name_in l.bindings) l.strings l.object) (enumerate_from 0 (take l.number l.symbol-items)))
