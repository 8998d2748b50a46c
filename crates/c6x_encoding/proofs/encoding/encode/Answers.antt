use Rattle.std.proofs.Common.{sym, ◌∙◌, ◌≡◌, Some, None}
use Rattle.c6x_encoding.proofs.Facts.{spells-encoded, encoded-spelled}
use Rattle.c6x_encoding.proofs.encoding.encode.Goals as goal

pub unreachable-requires : goal.unreachable-requires
unreachable-requires c =
    let e : None ≡ Some c.requires.0 = sym c.in-None.is ∙ c.word_of.ensures ∙ encoded-spelled c.args.instr.now c.requires.0 c.requires.1 in
    cc

pub returns : goal.returns
returns c = spells-encoded c.args.instr.now c.in-Some.word (sym c.word_of.ensures ∙ c.in-Some.is)
