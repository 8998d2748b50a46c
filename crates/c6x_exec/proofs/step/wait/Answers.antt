use Rattle.c6x_exec.proofs.Standing.{waited}
use Rattle.c6x_exec.proofs.step.wait.Goals as goal

pub returns-in-None-clause-keeps : goal.returns-in-None-clause-keeps
returns-in-None-clause-keeps c is b s l running k =
    waited c.args.p.now c.tick.new.p b s l running c.tick.ensures.ended c.if-p.false
    (c.in-None.ensures b s l.history l.count k.tracks) (c.tick.ensures.tracks b s l.history l.count) k
