use Rattle.std.proofs.Common.{subst, sym}
use Rattle.c6x_dis.specs.Words.{AssemblesTo}
use Rattle.c6x_dis.proofs.Shown.{shown_assembled}
use Rattle.c6x_dis.proofs.showing.show.Goals as goal

pub returns-clause-assembled : goal.returns-clause-assembled
returns-clause-assembled c = λ word spells.
    subst (λ line. AssemblesTo line word) (sym c.show.ensures.text) (shown_assembled c.args.instr.now word spells)
