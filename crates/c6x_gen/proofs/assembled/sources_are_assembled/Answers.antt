use Rattle.c6x_gen.proofs.AssembledSources.{all_assembled}
use Rattle.c6x_gen.proofs.assembled.sources_are_assembled.Goals as goal

pub returns : goal.returns
returns c = all_assembled
