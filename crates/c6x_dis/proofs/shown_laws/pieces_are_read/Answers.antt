use Rattle.c6x_dis.proofs.Cuts.{tokens_are}
use Rattle.c6x_dis.proofs.Lexed.{lexemes_are}
use Rattle.c6x_dis.proofs.shown_laws.pieces_are_read.Goals as goal

pub returns : goal.returns
returns c = λ front atoms p apart place. (tokens_are atoms p apart, lexemes_are front atoms p.line p.at place)
