use Rattle.std.proofs.Common.{None, Some, refl, subst}
use Rattle.c6x_cli_words.specs.Requests.{IsReading}
use Rattle.c6x_cli_words.proofs.Numbers.{small_reading}
use Rattle.c6x_cli.proofs.Served.{served_reading}
use Rattle.c6x_cli.proofs.dispatch.request_of.Goals as goal

pub returns-in-Some-clause-served : goal.returns-in-Some-clause-served
returns-in-Some-clause-served g c = λ read is.
    served_reading c.args.words.items read (Some c.in-Some.request) _ _ (subst (IsReading c.args.words.items) c.in-Some.is c.in_ok-read.ensures) is c.serve.ensures.served

pub returns-in-None-clause-served : goal.returns-in-None-clause-served
returns-in-None-clause-served g c = λ read is.
    served_reading c.args.words.items read None _ None (subst (IsReading c.args.words.items) c.in-None.is c.in_ok-read.ensures) is refl

pub serve-requires : goal.serve-requires
serve-requires g c =
    small_reading c.args.words.items (Some c.in-Some.request) (subst (IsReading c.args.words.items) c.in-Some.is c.in_ok-read.ensures)
