use Rattle.c6x_relocated.proofs.Relocated.{plan_relocated}
use Rattle.c6x_relocated.proofs.relocated_plan.plans_are_relocated.Goals as goal

pub returns : goal.returns
returns c = λ board modules plans bounds placement loaded process f finding position m text base member objects plan of.
    plan_relocated board modules plans bounds placement loaded process f finding position m text base member objects
    plan of
