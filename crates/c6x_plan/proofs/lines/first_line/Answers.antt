use Rattle.std.proofs.Common.{◌+◌, sym}
use Rattle.std.proofs.lemmas.List.{take_rest}
use Rattle.c6x_plan.proofs.LinesLeft.{lines_at, lines_whole}
use Rattle.c6x_plan.proofs.lines.first_line.Goals as goal

pub returns-in-Some-clause-cut : goal.returns-in-Some-clause-cut
returns-in-Some-clause-cut c =
    rw (take_rest c.args.text.now (c.in-Some.end + 1), c.without_return.ensures)
    (lines_at c.args.text.now c.in-Some.end (sym c.in-Some.ensures.value))

pub returns-in-None-clause-cut : goal.returns-in-None-clause-cut
returns-in-None-clause-cut c = lines_whole c.args.text.now (sym c.in-None.ensures.value) c.requires
