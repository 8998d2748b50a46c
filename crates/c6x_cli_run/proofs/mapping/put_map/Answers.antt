use Rattle.std.proofs.Common.{rules}
use Rattle.c6x_cli_steps.proofs.Stages.{puts_first}
use Rattle.c6x_cli_run.proofs.Delivering.{delivers_done, delivers_cut}
use Rattle.c6x_cli_run.proofs.mapping.put_map.Goals as goal

pub returns-in_err-put_report : goal.returns-in_err-put_report
returns-in_err-put_report g c =
    delivers_cut _ _ _ _ _ _ _ (search rules)
    (puts_first _ _ _ c.args.board.now _ _ _ c.in_err-put_report.ensures c.write_start.ensures.board)

pub returns : goal.returns
returns g c =
    delivers_done _ _ _ _ _ _ _
    (puts_first _ _ _ c.args.board.now _ _ _ c.in_ok-put_report.ensures c.write_start.ensures.board)
