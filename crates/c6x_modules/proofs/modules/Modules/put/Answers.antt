use Rattle.std.proofs.Common.{rules}
use Rattle.std.specs.Prelude.{vec_len}
use Rattle.c6x_modules.proofs.Kept.{back_off, owner_more}
use Rattle.c6x_modules.proofs.modules.Modules.put.Goals as goal

pub invariant_of-self-in-Ok : goal.invariant_of-self-in-Ok
invariant_of-self-in-Ok c =
    rw (c.in-Ok.ensures.items, c.in_ok-push.ensures.items)
    (owner_more c.self.inside.modules.items c.self.inside.indexes.items c.args.image c.args.index c.self.invariant c.requires.valid (search rules) (search rules) c.requires.index)

pub invariant_of-self-in-Err : goal.invariant_of-self-in-Err
invariant_of-self-in-Err c =
    rw (c.in-Err.ensures.items, back_off c.self.inside.indexes.items c.push.new.self.items c.pop.new.self.items c.args.index (vec_len c.push.new.self) c.in_ok-push.ensures.items c.pop.ensures.rest (search rules))
    c.self.invariant
