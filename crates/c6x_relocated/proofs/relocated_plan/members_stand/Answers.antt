use Rattle.c6x_relocated.proofs.Members.{member_stands}
use Rattle.c6x_relocated.proofs.relocated_plan.members_stand.Goals as goal

pub returns : goal.returns
returns c = λ board modules plans bounds placement loaded process f finding position m text base member.
    member_stands board modules plans bounds placement loaded process f finding position m text base member
