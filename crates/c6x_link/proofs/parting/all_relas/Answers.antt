use Rattle.c6x_link.proofs.Placed.{has_room}
use Rattle.c6x_link.proofs.parting.all_relas.Goals as goal

pub word_relas-requires-clause-room : goal.word_relas-requires-clause-room
word_relas-requires-clause-room c = has_room c.args.link.now c.requires.worked
