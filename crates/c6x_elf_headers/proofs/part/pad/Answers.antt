use Rattle.std.proofs.Common.{arith}
use Rattle.c6x_elf_headers.proofs.Layouts.{zeros_more}
use Rattle.c6x_elf_headers.proofs.part.pad.Goals as goal

pub loop-k-preserved : goal.loop-k-preserved
loop-k-preserved c = record {
  zeros = zeros_more c.args.out.now.items c.loop-k.out.items c.push.new.self.items c.loop-k.k c.len-from.result
      (omega arith) c.loop-k.invariant.zeros c.in_ok-push.ensures.items;
  end = omega (arith, c.in_ok-push.ensures.len);
}
