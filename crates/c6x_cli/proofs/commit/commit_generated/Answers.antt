use Rattle.std.proofs.Common.{refl, rules}
use Rattle.c6x_ports.specs.declared.kind.Kind.{Kind}
use Rattle.c6x_ports.specs.declared.kind.Kind.TheVariants.{Round}
use Rattle.c6x_cli.specs.Stages.{gen_stages}
use Rattle.c6x_cli_run.specs.Tellings.{untold}
use Rattle.c6x_cli_run.proofs.Tellings.{tells_untold}
use Rattle.c6x_cli.proofs.Served.{asking_carries}
use Rattle.c6x_cli.proofs.commit.commit_generated.Goals as goal

pub returns : goal.returns
returns g c = λ shelf err.
    asking_carries _ _ _ _ _ _ Round 1 c.args.loading.now (λ (kind : Kind). untold (gen_stages c.args.number c.args.loading.now c.args.board.now)) _ _ _ _ _ shelf err (search rules) (search rules) c.index_mut.ensures.value refl
    (tells_untold _ _ _ _ _ _ c.put_generated.ensures.delivers) c.put_generated.ensures.serves
