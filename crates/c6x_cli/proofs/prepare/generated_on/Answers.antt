use Rattle.std.proofs.Common.{length}
use Rattle.c6x_cli.proofs.Boarded.{decided_on}
use Rattle.c6x_cli.proofs.prepare.generated_on.Goals as goal

pub returns-clause-decides : goal.returns-clause-decides
returns-clause-decides c =
    decided_on c.args.number c.base.result c.len.result c.args.board.now.base (length c.args.board.now.bytes) c.prepare_generated.result c.base.ensures c.len.ensures.value c.prepare_generated.ensures.decides
