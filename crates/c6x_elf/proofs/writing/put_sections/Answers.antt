use Rattle.std.proofs.Common.{arith}
use Rattle.c6x_elf.proofs.Puts.{section_laid_step, section_order_here, section_order_step, section_orders_step}
use Rattle.c6x_elf.proofs.writing.put_sections.Goals as goal

pub put_section-requires : goal.put_section-requires
put_section-requires c =
    section_order_here c.args.sections.now c.args.offsets.now c.loop-k.k c.index-sections-k.result 0 _ (omega arith) (omega arith) c.index-sections-k.is
    c.loop-k.invariant.order

pub loop-k-preserved : goal.loop-k-preserved
loop-k-preserved c = record {
  laid = λ rest.
      section_laid_step c.args.sections.now c.args.offsets.now c.loop-k.k c.index-sections-k.result 0 c.loop-k.out.items c.put_section.new.out.items _ _ _
      rest (omega arith) (omega arith) c.index-sections-k.is c.in_ok-put_section.ensures.laid (c.loop-k.invariant.laid rest);
  order = section_order_step c.args.sections.now c.args.offsets.now c.loop-k.k c.index-sections-k.result 0 _ _ (omega arith) (omega arith) c.index-sections-k.is
      c.in_ok-put_section.ensures.order c.loop-k.invariant.order;
  orders = λ rest order.
      section_orders_step c.args.sections.now c.args.offsets.now c.loop-k.k c.index-sections-k.result 0 _ _ rest (omega arith) (omega arith) c.index-sections-k.is
      c.in_ok-put_section.ensures.order (c.loop-k.invariant.orders rest order);
}
