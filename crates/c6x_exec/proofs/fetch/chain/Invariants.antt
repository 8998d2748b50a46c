use Rattle.c6x_exec.specs.Fetched.{number_in}
use Rattle.c6x_machine.specs.Packet.{may_run}
use Rattle.c6x_exec.proofs.Words.{Chaining}
use Rattle.c6x_exec.proofs.fetch.chain.Given as goal

abbrev pub invariant-loop-place : goal.invariant-loop-place
invariant-loop-place l = Chaining (may_run l.map) (λ x. number_in l.board x 4) l.at l.most l.words l.from l.place
