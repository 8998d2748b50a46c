use Rattle.c6x_load.proofs.Images.{data_holds}
use Rattle.c6x_load.proofs.fill_laws.data_holds.Goals as goal

pub returns : goal.returns
returns c = data_holds
