use Rattle.std.proofs.Common.{[], ◌∷◌, ◌++◌, sym, ◌∙◌, ap}
use Rattle.c6x_dis.proofs.Bytes.{comma_bytes, joined_line}
use Rattle.c6x_dis.proofs.writing.put_triple.Goals as goal

pub returns-clause-is : goal.returns-clause-is
returns-clause-is c =
    joined_line c.args.line.now _ _ _ _ _ c.put_operand.ensures.is c.push.ensures c.put_pair.ensures.is
    ∙ ap (λ r. c.args.line.now ++ r) (sym (comma_bytes c.args.first c.args.second (c.args.third ∷ [])))
