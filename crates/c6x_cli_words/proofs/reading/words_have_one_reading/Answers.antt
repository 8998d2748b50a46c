use Rattle.c6x_cli_words.proofs.Verbs.{one_reading}
use Rattle.c6x_cli_words.proofs.reading.words_have_one_reading.Goals as goal

pub returns : goal.returns
returns c = one_reading
