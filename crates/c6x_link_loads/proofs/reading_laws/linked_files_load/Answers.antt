use Rattle.c6x_link_loads.proofs.Loads.{loads}
use Rattle.c6x_link_loads.proofs.reading_laws.linked_files_load.Goals as goal

pub returns : goal.returns
returns c = loads
