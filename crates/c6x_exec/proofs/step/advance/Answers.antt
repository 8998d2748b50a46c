use Rattle.c6x_machine.specs.Machine.{outcome_of, next_by}
use Rattle.c6x_exec.proofs.step.advance.Goals as goal

pub returns-clause-keeps : goal.returns-clause-keeps
unfolding next_by
returns-clause-keeps c s l areas k = c.end_cycle.ensures.keeps c.step-end.new.board s l.history l.count (outcome_of s l.history l.count) (c.step-end.ensures.comes s l.history l.count areas k.tracks)
