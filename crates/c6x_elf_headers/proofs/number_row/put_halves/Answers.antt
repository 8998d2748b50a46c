use Rattle.std.proofs.Common.{arith}
use Rattle.c6x_elf_headers.proofs.NumberRows.{halves_step}
use Rattle.c6x_elf_headers.proofs.number_row.put_halves.Goals as goal

pub loop-half-preserved : goal.loop-half-preserved
loop-half-preserved c = record {
  row = halves_step c.args.big c.args.out.now.items c.args.halves.now c.loop-half.out.items c.put_half.new.out.items c.loop-half.half-index
      (omega arith) c.loop-half.invariant.row c.in_ok-put_half.ensures.bytes;
  end = omega (arith, c.in_ok-put_half.ensures.end);
}
