use Rattle.std.proofs.Common.{◌≡◌, ℕ, ◌-◌, ◌≤◌, List, Some, vec_len}
use Rattle.c6x_ports.proofs.Carried.{HasGiven}
use Rattle.c6x_ports.proofs.streams.read_front.Given as goal

abbrev pub invariant-loop-chunk : goal.invariant-loop-chunk
invariant-loop-chunk g l = record {
  within : vec_len l.all ≤ l.limit;
  told : (left : List ℕ) → g.R.Read.remaining l.fn.reader ≡ Some left → HasGiven left l.all.items (g.R.Read.remaining l.reader);
}

abbrev pub decreases-loop-chunk : goal.decreases-loop-chunk
decreases-loop-chunk g l = l.limit - vec_len l.all
