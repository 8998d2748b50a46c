use Rattle.std.proofs.Common.{◌≡◌, ◌+◌, ◌*◌, ◌++◌, take, vec_len}
use Rattle.c6x_elf_headers.specs.Rows.{word_row}
use Rattle.c6x_elf_headers.proofs.number_row.put_words.Given as goal

abbrev pub invariant-loop-word : goal.invariant-loop-word
invariant-loop-word l = record {
  row : l.out.items ≡ l.fn.out.items ++ word_row l.big (take l.word-index l.words);
  end : vec_len l.out ≡ vec_len l.fn.out + 4 * l.word-index;
}
