use Rattle.std.proofs.Common.{◌≡◌, ◌+◌, ◌*◌, ◌++◌, take, vec_len}
use Rattle.c6x_elf_headers.specs.Rows.{half_row}
use Rattle.c6x_elf_headers.proofs.number_row.put_halves.Given as goal

abbrev pub invariant-loop-half : goal.invariant-loop-half
invariant-loop-half l = record {
  row : l.out.items ≡ l.fn.out.items ++ half_row l.big (take l.half-index l.halves);
  end : vec_len l.out ≡ vec_len l.fn.out + 2 * l.half-index;
}
