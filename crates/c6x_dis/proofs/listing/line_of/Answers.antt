use Rattle.std.proofs.Common.{refl, ◌∙◌}
use Rattle.std.specs.Prelude.{codes}
use Rattle.c6x_spec.specs.Printed.{hex_8, hex_word}
use Rattle.c6x_encoding.specs.Decoded.{decoded}
use Rattle.c6x_dis.specs.Listed.{told_word, word_line}
use Rattle.c6x_dis.proofs.Behind.{five_pieces}
use Rattle.c6x_dis.proofs.listing.line_of.Goals as goal

pub returns : goal.returns
unfolding word_line
returns c =
    five_pieces (hex_word c.args.at) (codes " ") (hex_8 c.args.word) (codes " ") (told_word c.args.chained c.args.word (decoded c.args.word)) _ _ _ _ _ (c.push.ensures ∙ rw (c.new-line.ensures, c.hex_word.ensures) refl) c.push-2.ensures c.push_digits.ensures.is c.push-3.ensures c.push_told.ensures
