use Rattle.std.proofs.Common.{◌≡◌, [], replicate}
use Rattle.c6x_modules.proofs.name_index.empty_rows.Given as goal

abbrev pub invariant-loop-i : goal.invariant-loop-i
invariant-loop-i l = l.rows.items ≡ replicate l.i []
