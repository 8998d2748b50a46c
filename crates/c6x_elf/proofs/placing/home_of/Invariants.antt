use Rattle.std.proofs.Common.{◌≡◌, drop}
use Rattle.c6x_elf.specs.Writing.{AreWithin, home_of}
use Rattle.c6x_elf.proofs.placing.home_of.Given as goal

abbrev pub invariant-loop-k : goal.invariant-loop-k
invariant-loop-k l = record {
  rest : home_of l.segment (drop l.k l.earlier) (drop l.k l.had) ≡ home_of l.segment l.earlier l.had;
  within : AreWithin (drop l.k l.earlier) (drop l.k l.had);
}
