use Rattle.c6x_cli_run.proofs.Performs.{carries_delivered}
use Rattle.c6x_cli.proofs.commit.commit_dis.Goals as goal

pub returns : goal.returns
returns g c = λ shelf err board policies. carries_delivered _ _ _ _ _ _ shelf err policies (c.put_code.ensures board)
