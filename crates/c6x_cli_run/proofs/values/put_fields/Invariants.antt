use Rattle.std.proofs.Common.{drop}
use Rattle.c6x_cli_run.specs.Held.{held_fields}
use Rattle.c6x_cli_run.proofs.Leads.{LeadsTo}
use Rattle.c6x_cli_run.proofs.values.put_fields.Given as goal

abbrev pub invariant-loop-field : goal.invariant-loop-field
invariant-loop-field g l =
    LeadsTo (held_fields l.board l.process l.image l.base l.fields) (g.O.Sink.seen l.fn.out) (held_fields l.board l.process l.image l.base (drop l.field-index l.fields)) (g.O.Sink.seen l.out)
