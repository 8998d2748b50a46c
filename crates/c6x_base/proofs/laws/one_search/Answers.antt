use Rattle.c6x_base.proofs.OneList.{search_law}
use Rattle.c6x_base.proofs.laws.one_search.Goals as goal

pub returns : goal.returns
returns c = search_law
