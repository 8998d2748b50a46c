use Rattle.std.proofs.Common.{sym}
use Rattle.std.specs.Str.{bytes_eq}
use Rattle.c6x_plan.proofs.Places.{at_place, at_end}
use Rattle.c6x_plan.proofs.run.number_of.Goals as goal

pub returns-in-Some-clause-number : goal.returns-in-Some-clause-number
returns-in-Some-clause-number c = sym (at_place (λ image. bytes_eq image.name c.args.name.now) c.args.modules.now c.in-Some.number (sym c.in-Some.ensures.place))

pub returns-in-None-clause-number : goal.returns-in-None-clause-number
returns-in-None-clause-number c = sym (at_end (λ image. bytes_eq image.name c.args.name.now) c.args.modules.now (sym c.in-None.ensures.place))
