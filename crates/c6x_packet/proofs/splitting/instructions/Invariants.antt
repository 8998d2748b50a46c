use Rattle.c6x_packet.proofs.Rests.{Spelling}
use Rattle.c6x_packet.proofs.splitting.instructions.Given as goal

abbrev pub invariant-loop-place : goal.invariant-loop-place
invariant-loop-place l = Spelling l.words l.instrs l.place
