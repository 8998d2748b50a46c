use Rattle.std.proofs.Common.{◌≡◌, true, sym, ◌∙◌, None}
use Rattle.std.proofs.lemmas.Bool.{cond-true}
use Rattle.c6x_encoding.specs.Spelling.{is_part, Mode}
use Rattle.c6x_encoding.specs.Encoded.{encoded}
use Rattle.c6x_encoding.proofs.words.short_word.Goals as goal

pub returns : goal.returns
unfolding encoded
returns c =
    let mode : is_part Mode c.args.mode ≡ true = sym c.is_mode.ensures ∙ c.if-not-is_mode.false in
    c.join.ensures
    ∙ rw (c.condition_number.ensures, c.side_number.ensures, c.opcode.ensures, c.side_number-2.ensures, c.bit.ensures) (sym (cond-true _ _ None mode))
