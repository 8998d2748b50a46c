use Rattle.std.proofs.Common.{arith}
use Rattle.c6x_elf_headers.proofs.NumberRows.{words_step}
use Rattle.c6x_elf_headers.proofs.number_row.put_words.Goals as goal

pub loop-word-preserved : goal.loop-word-preserved
loop-word-preserved c = record {
  row = words_step c.args.big c.args.out.now.items c.args.words.now c.loop-word.out.items c.put_word.new.out.items c.loop-word.word-index
      (omega arith) c.loop-word.invariant.row c.in_ok-put_word.ensures.bytes;
  end = omega (arith, c.in_ok-put_word.ensures.end);
}
