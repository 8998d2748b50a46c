use Rattle.std.proofs.Common.{refl, rules}
use Rattle.c6x_ports.specs.declared.kind.Kind.{Kind}
use Rattle.c6x_cli_run.specs.Stages.{run_telling}
use Rattle.c6x_cli.proofs.Served.{asking_carries}
use Rattle.c6x_cli.proofs.commit.commit_run.Goals as goal

pub returns : goal.returns
returns g c = λ shelf err.
    asking_carries _ _ _ _ _ _ c.args.kind c.args.seed c.args.loading.now (λ (kind : Kind). run_telling c.args.turns kind c.args.seed c.args.loading.now c.args.board.now) _ _ _ _ _ shelf err (search rules) (search rules) c.index_mut.ensures.value refl c.put_run.ensures.tells c.put_run.ensures.serves
