use Rattle.std.proofs.Common.{refl, inl, inr}
use Rattle.c6x_cli_run.proofs.Performs.{cut_of, left_of, cut_reported, memory_reported}
use Rattle.c6x_cli.proofs.dispatch.finish.Goals as goal

pub returns-in-Ok-clause-ends : goal.returns-in-Ok-clause-ends
returns-in-Ok-clause-ends g c = inl (inl (refl, c.in-Ok.ensures.carries (g.E.Sink.seen c.args.err.now)))

pub returns-in-Err-WriteFault-clause-ends : goal.returns-in-Err-WriteFault-clause-ends
returns-in-Err-WriteFault-clause-ends g c =
    inl (cut_reported _ _ _ _ _ _ _ _ _ _ _ _
    (cut_of (Unit {0}) _ _ _ _ c.in-Err-WriteFault.field-0-is (c.in-Err-WriteFault.ensures.carries (g.E.Sink.seen c.args.err.now)))
    c.report_write_fault.ensures)

pub returns-in-Err-Memory-clause-ends : goal.returns-in-Err-Memory-clause-ends
returns-in-Err-Memory-clause-ends g c =
    inr (memory_reported _ _ _ _ _ _ _ _ _ _ _
    (left_of (Unit {0}) _ _ _ _ c.in-Err-Memory.field-0-is (c.in-Err-Memory.ensures.carries (g.E.Sink.seen c.args.err.now)))
    c.report_error.ensures)
