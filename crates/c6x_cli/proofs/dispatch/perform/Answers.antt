use Rattle.c6x_cli_run.proofs.Performs.{performs_committed, performs_prevented}
use Rattle.c6x_cli.specs.Meaning.{outcome_of}
use Rattle.c6x_cli.proofs.OutcomeKinds.{kind_of_outcome, asks_of_outcome, faults_of_kind, policy_of_kind}
use Rattle.c6x_cli.proofs.dispatch.perform.Goals as goal

pub finish-requires-clause-served : goal.finish-requires-clause-served
finish-requires-clause-served g c = policy_of_kind _ _ _ c.in-Ok.ensures.asks c.requires.there

pub returns-in-Ok : goal.returns-in-Ok
returns-in-Ok g c =
    performs_committed (λ prepared. outcome_of prepared c.args.board.now) _ _ _ _ _ _ _ _ _ _ _ _ c.in-Ok.ensures.prepares
    (kind_of_outcome _ _ _ c.in-Ok.ensures.kind)
    (asks_of_outcome _ _ _ c.in-Ok.ensures.asks)
    (faults_of_kind _ _ _ _ c.in-Ok.ensures.kind c.finish.ensures.write_faults)
    c.finish.ensures.ends

pub returns-in-Err : goal.returns-in-Err
returns-in-Err g c =
    performs_prevented (λ prepared. outcome_of prepared c.args.board.now) _ _ _ _ _ _ _ _ _ _ _ _ c.in-Err.ensures.prepares c.report_error.ensures
