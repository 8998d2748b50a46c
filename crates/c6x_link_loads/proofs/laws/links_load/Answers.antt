use Rattle.c6x_link_loads.proofs.Loadable.{loadable}
use Rattle.c6x_link_loads.proofs.laws.links_load.Goals as goal

pub returns : goal.returns
returns c = loadable
