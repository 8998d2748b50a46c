use Rattle.c6x_cli_run.proofs.Stands.{board_of_all}
use Rattle.c6x_cli_run.proofs.laws.board_is_of_all.Goals as goal

pub returns : goal.returns
returns c = board_of_all
