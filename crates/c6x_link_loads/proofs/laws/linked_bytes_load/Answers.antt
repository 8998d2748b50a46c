use Rattle.c6x_link_loads.proofs.Written.{bytes_load}
use Rattle.c6x_link_loads.proofs.laws.linked_bytes_load.Goals as goal

pub returns : goal.returns
returns c = bytes_load
