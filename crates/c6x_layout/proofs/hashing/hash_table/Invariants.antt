use Rattle.std.proofs.Common.{◌+◌, ◌-◌, drop, length}
use Rattle.c6x_layout.specs.Tables.{shared_names}
use Rattle.c6x_layout.proofs.Backward.{Holds}
use Rattle.c6x_layout.proofs.hashing.hash_table.Given as goal

abbrev pub invariant-loop-back : goal.invariant-loop-back
invariant-loop-back l = Holds (length l.shared + 3) (3 + (length l.shared - l.back)) (drop (length l.shared - l.back) (shared_names l.shared)) l.buckets.items l.chains.items
