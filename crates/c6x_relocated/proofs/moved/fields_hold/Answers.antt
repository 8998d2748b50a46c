use Rattle.c6x_relocated.proofs.Held.{hold}
use Rattle.c6x_relocated.proofs.moved.fields_hold.Goals as goal

pub returns : goal.returns
returns c = λ board at old bytes behind fields by found multiple on small patched part e kind worth linked last.
    hold board at old bytes behind fields by found multiple on small patched part e kind worth linked last
