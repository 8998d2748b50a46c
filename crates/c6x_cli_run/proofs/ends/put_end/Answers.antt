use Rattle.std.proofs.Common.{◌∙◌, sym}
use Rattle.c6x_cli_run.proofs.Lives.{life_line_is}
use Rattle.c6x_cli_run.proofs.ends.put_end.Goals as goal

pub returns : goal.returns
returns g c b s lived =
    rw (life_line_is c.args.name.now s _ _ _ (lived.ran.ended ∙ sym (c.ended.ensures.ran b s lived.ended.end lived.ran) ∙ c.unwrap-end.ensures) (c.cycles.ensures.ran b s lived.ended.end lived.ran) (c.output.ensures.ran b s lived.ended.end lived.ran)) c.put_process.ensures
