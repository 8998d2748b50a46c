use Rattle.std.proofs.Common.{refl}
use Rattle.c6x_sched.proofs.Moves.{turn_of}
use Rattle.c6x_sched.proofs.system.System.turn.Goals as goal

pub returns : goal.returns
returns c = turn_of _ _ _ _ _ _ c.run_picked.ensures.picked c.run_picked.ensures.turned refl c.requires.on_board
