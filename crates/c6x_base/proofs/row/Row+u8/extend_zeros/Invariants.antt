use Rattle.std.proofs.Common.{◌≡◌, ◌++◌, replicate}
use Rattle.c6x_base.proofs.row.Row+u8.extend_zeros.Given as goal

abbrev pub invariant-loop : goal.invariant-loop
invariant-loop l = l.self-inside.items.items ≡ l.fn.self ++ replicate l.counter 0
