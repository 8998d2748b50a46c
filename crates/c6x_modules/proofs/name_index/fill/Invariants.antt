use Rattle.std.proofs.Common.{◌≡◌, ℕ, ◌<◌, List, length, take}
use Rattle.std.specs.Prelude.{slice_index_or}
use Rattle.c6x_modules.specs.Indexed.{numbers_in}
use Rattle.c6x_modules.proofs.name_index.fill.Given as goal

abbrev pub invariant-loop-number : goal.invariant-loop-number
invariant-loop-number l = record {
  size : length l.buckets ≡ length l.fn.buckets;
  rows : (b : ℕ) (d : List ℕ) → b < length l.buckets → slice_index_or l.buckets b d ≡ numbers_in (length l.buckets) b 0 (take l.number l.symbols);
}
