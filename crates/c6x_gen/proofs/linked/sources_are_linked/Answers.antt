use Rattle.c6x_gen.proofs.LinkedSources.{sources_linked}
use Rattle.c6x_gen.proofs.linked.sources_are_linked.Goals as goal

pub returns : goal.returns
returns c = sources_linked c.sources_are_assembled.ensures
