use Rattle.std.proofs.Common.{◌≡◌, false, length, ap, sym, ◌∙◌, rules}
use borrow.Author.Tests.{tests}
use Rattle.c6x_plan.specs.Lines.{is_passed_over}
use Rattle.c6x_plan.proofs.LinesLeft.{left_said}
use Rattle.c6x_plan.proofs.lines.LinesIterator.next.Goals as goal

pub returns-then-not-is_passed_over-clause-goes : goal.returns-then-not-is_passed_over-clause-goes
returns-then-not-is_passed_over-clause-goes c =
    let from = c.loop-line.self in
    let cut = c.first_line.result in
    let says : is_passed_over cut.0.now ≡ false = search (rules, tests) in
    let shorter = ap length (sym c.loop-line.invariant ∙ left_said from.gone from.rest.now cut.0.now cut.1.now c.first_line.ensures.cut says) in
    search rules
