use Rattle.std.proofs.Common.{◌≡◌, []}
use Rattle.c6x_plan.specs.RunDrafts.{draft_rule, draft_with, run_draft_of}
use Rattle.c6x_plan.specs.RunLines.{run_line}
use Rattle.c6x_plan.specs.Rules.{drafted}
use Rattle.c6x_plan.specs.TextLines.{lines_left}
use Rattle.c6x_plan.proofs.run.drafted.Given as goal

abbrev pub invariant-loop-line : goal.invariant-loop-line
invariant-loop-line l =
    drafted run_line draft_rule draft_with l.draft (lines_left l.line-iterator)
    ≡ drafted run_line draft_rule draft_with (run_draft_of []) (lines_left l.fn.lines)
