use Rattle.c6x_encoding.proofs.Facts.{same_word}
use Rattle.c6x_encoding.proofs.laws.exactly_one_word.Goals as goal

pub returns : goal.returns
returns c i v = (v.0, v.1, λ other s. same_word i other v.0 s v.1)
