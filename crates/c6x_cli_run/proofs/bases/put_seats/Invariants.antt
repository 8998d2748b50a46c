use Rattle.std.proofs.Common.{drop}
use Rattle.c6x_cli_run.specs.Bases.{seats_lines}
use Rattle.c6x_cli_run.proofs.Leads.{LeadsTo}
use Rattle.c6x_cli_run.proofs.bases.put_seats.Given as goal

abbrev pub invariant-loop-process : goal.invariant-loop-process
invariant-loop-process g l =
    LeadsTo (seats_lines l.modules l.plans l.bounds l.seats) (g.O.Sink.seen l.fn.out) (seats_lines l.modules (drop l.process l.plans) (drop l.process l.bounds) (drop l.process l.seats)) (g.O.Sink.seen l.out)
