use Rattle.std.proofs.Common.{subst}
use Rattle.std.specs.Prelude.{Some}
use Rattle.c6x_cli_words.specs.Requests.{HasSmallNumber}
use Rattle.c6x_cli_words.specs.declared.request.Request.{Request}
use Rattle.c6x_cli.proofs.prepare.prepare.Goals as goal

pub prepare_gen-requires : goal.prepare_gen-requires
prepare_gen-requires g c = subst (λ (r : Request). HasSmallNumber (Some r)) c.in-Generate.is c.requires

pub returns-in-Generate-clause-prepares : goal.returns-in-Generate-clause-prepares
returns-in-Generate-clause-prepares g c = rw c.in-Generate.is (c.prepare_gen.ensures.prepares (g.S.Shelf.seen c.args.shelf.now))
