use Rattle.std.proofs.Common.{◌<◌, length, ◌∙◌, rules}
use Rattle.std.specs.Prelude.{slice_index_or}
use Rattle.c6x_modules.proofs.Indexes.{row_more}
use Rattle.c6x_modules.proofs.name_index.fill.Goals as goal

pub loop-number-preserved : goal.loop-number-preserved
loop-number-preserved c = record {
  size = c.put.ensures.size ∙ c.loop-number.invariant.size;
  rows = λ b d below.
      let within : b < length c.loop-number.buckets = rw c.put.ensures.size at below in
      rw c.put.ensures.size
      (row_more (length c.loop-number.buckets) b c.args.symbols.now c.loop-number.number c.index-symbols-number.result (slice_index_or c.loop-number.buckets b d) (slice_index_or c.put.new.buckets b d) (search rules) c.index-symbols-number.is (c.loop-number.invariant.rows b d within) (c.in_ok-put.ensures.rows b d within));
}
