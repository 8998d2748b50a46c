use Rattle.std.proofs.Common.{arith}
use Rattle.c6x_elf.proofs.Puts.{section_fit_step, section_rows_step}
use Rattle.c6x_elf.proofs.writing.put_section_heads.Goals as goal

pub loop-k-preserved : goal.loop-k-preserved
loop-k-preserved c = record {
  rows = section_rows_step c.args.at c.args.sections.now c.args.offsets.now c.loop-k.k c.index-sections-k.result 0
      c.section_head-head.result c.loop-k.out.items c.put_section_head.new.out.items _ (omega arith) (omega arith) c.index-sections-k.is
      c.section_head-head.ensures c.in_ok-put_section_head.ensures.row c.loop-k.invariant.rows;
  end = omega (arith, c.in_ok-put_section_head.ensures.end);
  fit = section_fit_step c.args.at c.args.sections.now c.args.offsets.now c.loop-k.k c.index-sections-k.result 0
      c.section_head-head.result _ (omega arith) (omega arith) c.index-sections-k.is
      c.section_head-head.ensures c.in_ok-put_section_head.ensures.fit c.loop-k.invariant.fit;
}
