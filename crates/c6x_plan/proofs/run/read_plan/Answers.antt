use Rattle.c6x_plan.specs.TextLines.{lines_left}
use Rattle.c6x_plan.proofs.RunDrafting.{few_modules, text_read}
use Rattle.c6x_plan.proofs.RunWithin.{all_within, draft_within}
use Rattle.c6x_plan.proofs.run.read_plan.Goals as goal

pub finished-requires : goal.finished-requires
finished-requires c = few_modules (lines_left c.in_ok-lines.lines) c.in_ok-draft.draft c.in_ok-draft.ensures

pub returns-clause-reads : goal.returns-clause-reads
returns-clause-reads c =
    text_read c.args.text.now (lines_left c.in_ok-lines.lines) c.in_ok-draft.draft c.finished.result c.in_ok-lines.ensures c.in_ok-draft.ensures c.finished.ensures.reads

pub returns-clause-within : goal.returns-clause-within
returns-clause-within c =
    all_within c.finished.result c.in_ok-draft.draft c.finished.ensures.value c.finished.ensures.some (draft_within (lines_left c.in_ok-lines.lines) c.in_ok-draft.draft c.in_ok-draft.ensures)
