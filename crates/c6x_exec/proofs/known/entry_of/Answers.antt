use Rattle.std.proofs.Common.{refl}
use Rattle.c6x_exec.proofs.Knowing.{split_known}
use Rattle.c6x_exec.proofs.known.entry_of.Goals as goal

pub returns : goal.returns
returns c =
    split_known c.args.words.now c.args.instrs.now _ c.requires.few c.requires.same c.requires.split c.requires.valid refl
    c.put_front.ensures.front c.put_front-2.ensures.front c.put_front.ensures.size c.put_front-2.ensures.size
