use Rattle.c6x_relocated.proofs.Word.{word_holds}
use Rattle.c6x_relocated.proofs.moved.moved_words_hold.Goals as goal

pub returns : goal.returns
returns c = λ board at old bytes behind fields on small patched part place word i last is.
    word_holds board at old bytes behind fields on small patched part place word i last is
