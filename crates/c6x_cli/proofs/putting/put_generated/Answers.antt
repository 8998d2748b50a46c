use Rattle.std.proofs.Common.{rules, refl}
use Rattle.c6x_cli_run.proofs.Delivering.{delivers_done, delivers_cut, delivers_none, serves_done, serves_cut, serves_none}
use Rattle.c6x_cli.proofs.putting.put_generated.Goals as goal

pub returns-in_err-loaded : goal.returns-in_err-loaded
returns-in_err-loaded g c = record {
  delivers = delivers_none _ _ _ _ _ _ (search rules) refl (search rules);
  serves = serves_none _ _ _ _ (search rules) refl;
}

pub returns-in_err-run_generated : goal.returns-in_err-run_generated
returns-in_err-run_generated g c = record {
  delivers = delivers_cut _ _ _ _ _ _ _ (search rules) (c.in_err-run_generated.ensures.puts c.args.board.now c.in_ok-loaded.ensures.board);
  serves = serves_cut _ _ _ _ _ (search rules) c.in_err-run_generated.ensures.asked;
}

pub returns : goal.returns
returns g c = record {
  delivers = delivers_done _ _ _ _ _ _ _ (c.in_ok-run_generated.ensures.puts c.args.board.now c.in_ok-loaded.ensures.board);
  serves = serves_done _ _ _ _ _ c.in_ok-run_generated.ensures.asked;
}
