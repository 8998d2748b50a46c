use Rattle.std.proofs.Common.{refl}
use Rattle.c6x_exec.proofs.Outcomes.{cycle_ended}
use Rattle.c6x_exec.proofs.cycle_end.end_cycle.Goals as goal

pub returns-clause-keeps : goal.returns-clause-keeps
returns-clause-keeps c b s h n o comes = cycle_ended c.args.end o c.args.p.now c.tick.new.p c.end_of-p.result _ _ b s h n comes (λ g k. c.tick.ensures.tracks b s g n k) refl refl c.end_of-p.ensures.value
