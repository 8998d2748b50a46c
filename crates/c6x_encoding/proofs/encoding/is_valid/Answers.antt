use Rattle.std.proofs.Common.{◌∙◌, ap}
use Rattle.std.specs.Option.{is_some}
use Rattle.c6x_encoding.proofs.Answering.{valid_iff}
use Rattle.c6x_encoding.proofs.encoding.is_valid.Goals as goal

pub returns : goal.returns
returns c = valid_iff c.args.instr.now c.is_some.result (c.is_some.ensures ∙ ap is_some c.word_of.ensures)
