use Rattle.std.proofs.Common.{rules, refl}
use Rattle.c6x_cli_run.proofs.Tellings.{tells_cut_short, tells_done, tells_none}
use Rattle.c6x_cli_run.proofs.Delivering.{serves_cut, serves_done, serves_none}
use Rattle.c6x_cli_run.proofs.telling.put_told_run.Goals as goal

pub returns-in_err-loaded : goal.returns-in_err-loaded
returns-in_err-loaded g c = record {
  tells = tells_none _ _ _ _ _ _ (search rules) refl (search rules);
  serves = serves_none _ _ _ _ (search rules) refl;
}

pub returns-in_err-tell_loaded : goal.returns-in_err-tell_loaded
returns-in_err-tell_loaded g c = record {
  tells = tells_cut_short _ _ _ _ _ _ _ (search rules) (c.in_err-tell_loaded.ensures.puts c.args.board.now c.in_ok-loaded.ensures.board);
  serves = serves_cut _ _ _ _ _ (search rules) c.in_err-tell_loaded.ensures.asked;
}

pub returns : goal.returns
returns g c = record {
  tells = tells_done _ _ _ _ _ _ _ (c.in_ok-tell_loaded.ensures.puts c.args.board.now c.in_ok-loaded.ensures.board);
  serves = serves_done _ _ _ _ _ c.in_ok-tell_loaded.ensures.asked;
}
