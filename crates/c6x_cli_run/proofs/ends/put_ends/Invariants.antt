use Rattle.std.proofs.Common.{drop, ℕ}
use Rattle.c6x_spec.specs.Memory.{Memory}
use Rattle.c6x_machine.specs.Origin.{Origin}
use Rattle.c6x_sched.specs.Ended.{AllHaveLived}
use Rattle.c6x_sched.specs.System.{processes_of}
use Rattle.c6x_cli_run.specs.Ends.{ends_from, ends_text}
use Rattle.c6x_cli_run.proofs.Leads.{LeadsTo}
use Rattle.c6x_cli_run.proofs.ends.put_ends.Given as goal

abbrev pub invariant-loop-number : goal.invariant-loop-number
invariant-loop-number g l =
    (b : Memory) (s : ℕ → Origin) → AllHaveLived (processes_of l.system) b s → LeadsTo (ends_text l.plans s) (g.O.Sink.seen l.fn.out) (ends_from s l.number (drop l.number l.plans)) (g.O.Sink.seen l.out)
