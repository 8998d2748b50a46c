use Rattle.std.proofs.Common.{◌∙◌, sym}
use Rattle.c6x_cli.proofs.Totals.{exit_is}
use Rattle.c6x_cli.proofs.sums.exit_of.Goals as goal

pub returns : goal.returns
returns c = λ b s lived.
    c.status_of.ensures
    ∙ sym (exit_is s c.unwrap-end.result (lived.ran.ended ∙ sym (c.ended.ensures.ran b s lived.ended.end lived.ran) ∙ c.unwrap-end.ensures))
