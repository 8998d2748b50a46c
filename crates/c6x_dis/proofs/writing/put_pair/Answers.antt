use Rattle.std.proofs.Common.{◌++◌, sym, ◌∙◌, ap}
use Rattle.c6x_dis.proofs.Bytes.{joined_line, pair_bytes}
use Rattle.c6x_dis.proofs.writing.put_pair.Goals as goal

pub returns-clause-is : goal.returns-clause-is
returns-clause-is c =
    joined_line c.args.line.now _ _ _ _ _ c.put_operand.ensures.is c.push.ensures c.put_operand-2.ensures.is
    ∙ ap (λ r. c.args.line.now ++ r) (sym (pair_bytes c.args.first c.args.second))
