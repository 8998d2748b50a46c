use Rattle.std.proofs.Common.{drop}
use Rattle.c6x_cli_run.specs.Held.{held_processes}
use Rattle.c6x_cli_run.proofs.Leads.{LeadsTo}
use Rattle.c6x_cli_run.proofs.values.put_processes.Given as goal

abbrev pub invariant-loop-process : goal.invariant-loop-process
invariant-loop-process g l =
    LeadsTo (held_processes l.board l.modules l.plans l.bounds l.seats) (g.O.Sink.seen l.fn.out) (held_processes l.board l.modules (drop l.process l.plans) (drop l.process l.bounds) (drop l.process l.seats)) (g.O.Sink.seen l.out)
