use Rattle.c6x_link.proofs.Placed.{has_room}
use Rattle.c6x_link.proofs.parting.parts_of.Goals as goal

pub stub_relas-requires-clause-room : goal.stub_relas-requires-clause-room
stub_relas-requires-clause-room c = has_room c.args.link.now c.requires.worked
