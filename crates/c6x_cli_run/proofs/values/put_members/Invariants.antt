use Rattle.std.proofs.Common.{drop}
use Rattle.c6x_cli_run.specs.Held.{held_members}
use Rattle.c6x_cli_run.proofs.Leads.{LeadsTo}
use Rattle.c6x_cli_run.proofs.values.put_members.Given as goal

abbrev pub invariant-loop-position : goal.invariant-loop-position
invariant-loop-position g l =
    LeadsTo (held_members l.board l.process l.modules l.list l.bases) (g.O.Sink.seen l.fn.out) (held_members l.board l.process l.modules (drop l.position l.list) (drop l.position l.bases)) (g.O.Sink.seen l.out)
