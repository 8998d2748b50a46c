use Rattle.std.proofs.Common.{rules}
use Rattle.c6x_modules.proofs.Kept.{index_of}
use Rattle.c6x_modules.proofs.modules.Modules.find.Goals as goal

pub find-requires : goal.find-requires
find-requires c =
    rw c.as_slice-symbols.ensures
    (index_of c.self.inside.modules.items c.self.inside.indexes.items c.args.number c.view.result.now c.index.result.now c.self.invariant.indexed (search rules) c.index.ensures)
