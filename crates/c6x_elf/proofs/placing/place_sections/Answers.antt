use Rattle.std.proofs.Common.{arith}
use Rattle.c6x_elf.proofs.Spots.{offset_past}
use Rattle.c6x_elf.proofs.placing.place_sections.Goals as goal

pub returns-then-end-from-clause-past : goal.returns-then-end-from-clause-past
returns-then-end-from-clause-past c =
    offset_past c.args.sections.now c.loop-section.at c.loop-section.section-index c.section-item.result _ (omega arith)
    c.section-item.is c.loop-section.invariant.end (omega arith)
