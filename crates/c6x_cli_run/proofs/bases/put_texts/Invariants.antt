use Rattle.std.proofs.Common.{drop}
use Rattle.c6x_cli_run.specs.Bases.{text_lines}
use Rattle.c6x_cli_run.proofs.Leads.{LeadsTo}
use Rattle.c6x_cli_run.proofs.bases.put_texts.Given as goal

abbrev pub invariant-loop-number : goal.invariant-loop-number
invariant-loop-number g l =
    LeadsTo (text_lines l.modules l.texts) (g.O.Sink.seen l.fn.out) (text_lines (drop l.number l.modules) (drop l.number l.texts)) (g.O.Sink.seen l.out)
