use Rattle.std.proofs.Common.{◌*◌, ◌∙◌, ap}
use Rattle.c6x_asm_object.specs.Sums.{empty_summary, summed}
use Rattle.c6x_asm_object.proofs.Folds.{front_of}
use Rattle.c6x_asm_object.proofs.outline.block_summary.Goals as goal

pub returns : goal.returns
returns c =
    c.summed.ensures
    ∙ ap (summed c.args.text.now empty_summary) (front_of (64 * c.args.block) 64 c.min.result c.args.sections.now c.min.ensures)
