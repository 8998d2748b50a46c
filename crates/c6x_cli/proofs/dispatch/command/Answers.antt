use Rattle.std.proofs.Common.{◌∙◌, sym, subst, []}
use Rattle.c6x_cli.proofs.LoadsRead.{linked_loads}
use Rattle.c6x_cli_run.proofs.Performs.{completes, exits_performed, keeps_performed, policies_performed, shows_performed}
use Rattle.c6x_cli.proofs.Generated.{lacks_room}
use Rattle.c6x_cli.proofs.Misread.{exits_misread, exits_unread, keeps_misread, policies_misread, policies_unread, shows_misread, shows_unread, stopped_misread, stopped_unread, usage_misread, usage_performed, usage_unread}
use Rattle.c6x_cli.proofs.OutcomeKinds.{performs_read}
use Rattle.c6x_cli.proofs.Relocated.{relocates}
use Rattle.c6x_cli_words.specs.Requests.{HasSmallNumber}
use Rattle.c6x_cli.proofs.dispatch.command.Goals as goal

pub perform-requires-clause-small : goal.perform-requires-clause-small
perform-requires-clause-small g c = subst HasSmallNumber c.in-Ok-Some.field-0-is c.in-Ok-Some.ensures.small

pub returns-in-Ok-Some-clause-exits : goal.returns-in-Ok-Some-clause-exits
returns-in-Ok-Some-clause-exits g c = λ read is told tells.
    exits_performed _ _ _ _ _ _ told (performs_read _ _ c.args.board.now _ _ _ (sym (c.in-Ok-Some.ensures.served read is) ∙ c.in-Ok-Some.field-0-is) c.perform.ensures) tells

pub returns-in-Ok-Some-clause-completes : goal.returns-in-Ok-Some-clause-completes
returns-in-Ok-Some-clause-completes g c = λ read is told tells none.
    completes _ _ _ _ (exits_performed _ _ _ _ _ _ told (performs_read _ _ c.args.board.now _ _ _ (sym (c.in-Ok-Some.ensures.served read is) ∙ c.in-Ok-Some.field-0-is) c.perform.ensures) tells) none

pub returns-in-Ok-Some-clause-shows : goal.returns-in-Ok-Some-clause-shows
returns-in-Ok-Some-clause-shows g c = λ read is.
    shows_performed _ _ _ _ _ _ (performs_read _ _ c.args.board.now _ _ _ (sym (c.in-Ok-Some.ensures.served read is) ∙ c.in-Ok-Some.field-0-is) c.perform.ensures)

pub returns-in-Ok-Some-clause-usage : goal.returns-in-Ok-Some-clause-usage
returns-in-Ok-Some-clause-usage g c = λ read is.
    usage_performed _ _ _ _ _ _ _ _ (sym (c.in-Ok-Some.ensures.served read is) ∙ c.in-Ok-Some.field-0-is) (performs_read _ _ c.args.board.now _ _ _ (sym (c.in-Ok-Some.ensures.served read is) ∙ c.in-Ok-Some.field-0-is) c.perform.ensures)

pub returns-in-Ok-Some-clause-keeps : goal.returns-in-Ok-Some-clause-keeps
returns-in-Ok-Some-clause-keeps g c = λ read is.
    keeps_performed _ _ _ _ _ _ (performs_read _ _ c.args.board.now _ _ _ (sym (c.in-Ok-Some.ensures.served read is) ∙ c.in-Ok-Some.field-0-is) c.perform.ensures)

pub returns-in-Ok-Some-clause-policies : goal.returns-in-Ok-Some-clause-policies
returns-in-Ok-Some-clause-policies g c = λ read is.
    policies_performed _ _ _ _ _ _ (performs_read _ _ c.args.board.now _ _ _ (sym (c.in-Ok-Some.ensures.served read is) ∙ c.in-Ok-Some.field-0-is) c.perform.ensures)

pub returns-in-Ok-None-clause-exits : goal.returns-in-Ok-None-clause-exits
returns-in-Ok-None-clause-exits g c = λ read is told tells.
    exits_misread _ told _ _ _ _ (sym (c.in-Ok-None.ensures.served read is) ∙ c.in-Ok-None.field-0-is) (stopped_misread _ _ _ _ _ _ _ c.report_error.ensures)

pub returns-in-Ok-None-clause-completes : goal.returns-in-Ok-None-clause-completes
returns-in-Ok-None-clause-completes g c = λ read is told tells none.
    completes _ _ _ _ (exits_misread _ told _ _ _ _ (sym (c.in-Ok-None.ensures.served read is) ∙ c.in-Ok-None.field-0-is) (stopped_misread _ _ _ _ _ _ _ c.report_error.ensures)) none

pub returns-in-Ok-None-clause-shows : goal.returns-in-Ok-None-clause-shows
returns-in-Ok-None-clause-shows g c = λ read is. shows_misread _ _ _ _ (stopped_misread _ _ _ _ _ _ _ c.report_error.ensures)

pub returns-in-Ok-None-clause-usage : goal.returns-in-Ok-None-clause-usage
returns-in-Ok-None-clause-usage g c = λ read is.
    usage_misread _ _ _ _ (sym (c.in-Ok-None.ensures.served read is) ∙ c.in-Ok-None.field-0-is) (stopped_misread _ (g.S.Shelf.seen c.args.shelf.now) (g.O.Sink.seen c.args.out.now) _ _ c.args.board.now [] c.report_error.ensures)

pub returns-in-Ok-None-clause-keeps : goal.returns-in-Ok-None-clause-keeps
returns-in-Ok-None-clause-keeps g c = λ read is. keeps_misread _ _ _ _ _ _ _

pub returns-in-Ok-None-clause-policies : goal.returns-in-Ok-None-clause-policies
returns-in-Ok-None-clause-policies g c = λ read is. policies_misread _ _ _ _ (stopped_misread _ (g.S.Shelf.seen c.args.shelf.now) (g.O.Sink.seen c.args.out.now) _ _ c.args.board.now _ c.report_error.ensures)

pub returns-in-Ok-Some-clause-loads : goal.returns-in-Ok-Some-clause-loads
returns-in-Ok-Some-clause-loads g c = linked_loads

pub returns-in-Ok-None-clause-loads : goal.returns-in-Ok-None-clause-loads
returns-in-Ok-None-clause-loads g c = linked_loads

pub returns-in-Ok-Some-clause-relocates : goal.returns-in-Ok-Some-clause-relocates
returns-in-Ok-Some-clause-relocates g c = λ read is told tells zero.
    let exits = exits_performed _ _ _ _ _ _ told
    (performs_read _ _ c.args.board.now _ _ _ (sym (c.in-Ok-Some.ensures.served read is) ∙ c.in-Ok-Some.field-0-is) c.perform.ensures) tells in
    relocates _ told _ _ _ exits c.len.ensures.whole zero

pub returns-in-Ok-None-clause-relocates : goal.returns-in-Ok-None-clause-relocates
returns-in-Ok-None-clause-relocates g c = λ read is told tells zero.
    let exits = exits_misread _ told _ _ _ _ (sym (c.in-Ok-None.ensures.served read is) ∙ c.in-Ok-None.field-0-is)
    (stopped_misread _ (g.S.Shelf.seen c.args.shelf.now) (g.O.Sink.seen c.args.out.now) _ _ c.args.board.now [] c.report_error.ensures) in
    relocates _ told _ _ _ exits c.len.ensures.whole zero

pub returns-in-Err-clause-exits : goal.returns-in-Err-clause-exits
returns-in-Err-clause-exits g c = λ read is told tells. exits_unread _ told _ _ _ _ (stopped_unread _ _ _ _ _ _ _ c.report_error-in-Err.ensures)

pub returns-in-Err-clause-completes : goal.returns-in-Err-clause-completes
returns-in-Err-clause-completes g c = λ read is told tells none.
    completes _ _ _ _ (exits_unread _ told _ _ _ _ (stopped_unread _ _ _ _ _ _ _ c.report_error-in-Err.ensures)) none

pub returns-in-Err-clause-shows : goal.returns-in-Err-clause-shows
returns-in-Err-clause-shows g c = λ read is. shows_unread _ _ _ _ (stopped_unread _ _ _ _ _ _ _ c.report_error-in-Err.ensures)

pub returns-in-Err-clause-usage : goal.returns-in-Err-clause-usage
returns-in-Err-clause-usage g c = λ read is.
    usage_unread _ _ _ _ (stopped_unread _ (g.S.Shelf.seen c.args.shelf.now) (g.O.Sink.seen c.args.out.now) _ _ c.args.board.now [] c.report_error-in-Err.ensures)

pub returns-in-Err-clause-keeps : goal.returns-in-Err-clause-keeps
returns-in-Err-clause-keeps g c = λ read is. keeps_misread _ _ _ _ _ _ _

pub returns-in-Err-clause-policies : goal.returns-in-Err-clause-policies
returns-in-Err-clause-policies g c = λ read is. policies_unread _ _ _ _ (stopped_unread _ (g.S.Shelf.seen c.args.shelf.now) (g.O.Sink.seen c.args.out.now) _ _ c.args.board.now _ c.report_error-in-Err.ensures)

pub returns-in-Err-clause-loads : goal.returns-in-Err-clause-loads
returns-in-Err-clause-loads g c = linked_loads

pub returns-in-Err-clause-relocates : goal.returns-in-Err-clause-relocates
returns-in-Err-clause-relocates g c = λ read is told tells zero.
    let exits = exits_unread _ told _ _ _ _
    (stopped_unread _ (g.S.Shelf.seen c.args.shelf.now) (g.O.Sink.seen c.args.out.now) _ _ c.args.board.now [] c.report_error-in-Err.ensures) in
    relocates _ told _ _ _ exits c.len.ensures.whole zero

pub returns-in-Ok-Some-clause-generates : goal.returns-in-Ok-Some-clause-generates
returns-in-Ok-Some-clause-generates g c = λ told. lacks_room c.generated_lacks_room_alone.ensures told c.args.board.now

pub returns-in-Ok-None-clause-generates : goal.returns-in-Ok-None-clause-generates
returns-in-Ok-None-clause-generates g c = λ told. lacks_room c.generated_lacks_room_alone.ensures told c.args.board.now

pub returns-in-Err-clause-generates : goal.returns-in-Err-clause-generates
returns-in-Err-clause-generates g c = λ told. lacks_room c.generated_lacks_room_alone.ensures told c.args.board.now
