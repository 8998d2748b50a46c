use Rattle.std.proofs.Common.{refl, sym, ◌∙◌, ap, Some, arith}
use Rattle.c6x_encoding.proofs.Answering.{spelled_iff, none_decoded}
use Rattle.c6x_encoding.proofs.Led.{led_decoded, led_other}
use Rattle.c6x_encoding.proofs.decoding.decode.Goals as goal

pub returns-in_err-form-clause-value : goal.returns-in_err-form-clause-value
returns-in_err-form-clause-value c = c.from_residual.ensures ∙ none_decoded c.args.word (sym c.form.ensures ∙ c.in_err-form.was)

pub returns-in_err-form-clause-spelled : goal.returns-in_err-form-clause-spelled
returns-in_err-form-clause-spelled c = spelled_iff _ c.args.word (returns-in_err-form-clause-value c)

pub returns-then-is_of_row-clause-value : goal.returns-then-is_of_row-clause-value
returns-then-is_of_row-clause-value c =
    ap Some c.instruction.ensures
    ∙ led_decoded c.in_ok-form.form c.args.word (omega arith) (sym c.form.ensures ∙ c.in_ok-form.was)
    (sym c.is_of_row.ensures ∙ c.if-is_of_row.true)

pub returns-then-is_of_row-clause-spelled : goal.returns-then-is_of_row-clause-spelled
returns-then-is_of_row-clause-spelled c = spelled_iff _ c.args.word (returns-then-is_of_row-clause-value c)

pub returns-else-is_of_row-clause-value : goal.returns-else-is_of_row-clause-value
returns-else-is_of_row-clause-value c =
    led_other c.in_ok-form.form c.args.word (sym c.form.ensures ∙ c.in_ok-form.was) (sym c.is_of_row.ensures ∙ c.if-is_of_row.false)

pub returns-else-is_of_row-clause-spelled : goal.returns-else-is_of_row-clause-spelled
returns-else-is_of_row-clause-spelled c = spelled_iff _ c.args.word (returns-else-is_of_row-clause-value c)

pub returns-then-is_of_row-clause-valid : goal.returns-then-is_of_row-clause-valid
returns-then-is_of_row-clause-valid c =
    (c.args.word, (returns-then-is_of_row-clause-spelled c c.instruction.result).0 refl)
