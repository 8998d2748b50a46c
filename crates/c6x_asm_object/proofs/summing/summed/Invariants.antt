use Rattle.std.proofs.Common.{◌≡◌, take}
use Rattle.c6x_asm_object.specs.Sums.{empty_summary, summed}
use Rattle.c6x_asm_object.proofs.summing.summed.Given as goal

abbrev pub invariant-loop-section : goal.invariant-loop-section
invariant-loop-section l = l.sum ≡ summed l.text empty_summary (take l.section-index l.sections)
