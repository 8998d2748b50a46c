use Rattle.std.proofs.Common.{◌≡◌, [], drop}
use Rattle.c6x_asm.specs.Packets.{bad_from}
use Rattle.c6x_asm.proofs.checking.first_bad.Given as goal

abbrev pub invariant-loop-instruction : goal.invariant-loop-instruction
invariant-loop-instruction l = bad_from l.line l.words.items (drop l.instruction-index l.instructions) ≡ bad_from 0 [] l.instructions
