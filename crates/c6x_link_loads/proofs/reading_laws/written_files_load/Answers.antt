use Rattle.c6x_link_loads.proofs.WrittenFile.{written_load}
use Rattle.c6x_link_loads.proofs.reading_laws.written_files_load.Goals as goal

pub returns : goal.returns
returns c = written_load
