use Rattle.c6x_relocated.proofs.Stays.{stays}
use Rattle.c6x_relocated.proofs.moved.value_stays.Goals as goal

pub returns : goal.returns
returns c = λ by multiple found kind r is words passes static. stays by multiple found kind r is words passes static
