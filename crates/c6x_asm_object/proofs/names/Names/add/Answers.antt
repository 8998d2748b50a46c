use Rattle.c6x_asm_object.proofs.Finding.{name_added}
use Rattle.c6x_asm_object.proofs.names.Names.add.Goals as goal

pub returns : goal.returns
returns c = rw (c.in_ok-insert.ensures.keys, ← c.self.view_is) (name_added c.self.inside.slices.keys c.args.name (rw c.self.view_is c.requires))
