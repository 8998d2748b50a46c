use Rattle.std.proofs.Common.{rules}
use Rattle.c6x_cli_show.proofs.Delivered.{delivers_front, delivers_put}
use Rattle.c6x_cli_show.proofs.putting.put_show.Goals as goal

pub returns-in_err-put_shown : goal.returns-in_err-put_shown
returns-in_err-put_shown g c = λ board. delivers_front _ _ _ board _ _ (search rules) c.in_err-put_shown.ensures

pub returns : goal.returns
returns g c = λ board. delivers_put _ _ _ board _ _ c.in_ok-put_shown.ensures
