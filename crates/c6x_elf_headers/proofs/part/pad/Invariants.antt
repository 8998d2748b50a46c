use Rattle.std.proofs.Common.{◌≡◌, ◌-◌, ◌++◌, replicate, vec_len}
use Rattle.c6x_elf_headers.proofs.part.pad.Given as goal

abbrev pub invariant-loop-k : goal.invariant-loop-k
invariant-loop-k l = record {
  zeros : l.out.items ≡ l.fn.out.items ++ replicate (l.k - l.from) 0;
  end : vec_len l.out ≡ l.k;
}
