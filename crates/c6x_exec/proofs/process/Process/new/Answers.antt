use Rattle.std.proofs.Common.{refl}
use Rattle.c6x_exec.proofs.Beginning.{stands_at_start}
use Rattle.c6x_exec.proofs.process.Process.new.Goals as goal

pub returns-clause-stands : goal.returns-clause-stands
returns-clause-stands c b bytes holds = stands_at_start _ b c.args.start bytes c.args.map refl (c.initial_context-context.ensures.tracks b bytes c.args.map holds) c.initial_context-context.ensures.running
