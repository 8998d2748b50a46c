use Rattle.std.proofs.Common.{◌≡◌, ◌≤◌, drop}
use Rattle.c6x_base.specs.declared.limits.TheConstants.{MOST_FILE_BYTES}
use Rattle.c6x_asm_object.specs.Places.{small_end}
use Rattle.c6x_asm_object.proofs.placing.small_end.Given as goal

abbrev pub invariant-loop-section : goal.invariant-loop-section
invariant-loop-section l = (small_end l.end (drop l.section-index l.sections) ≡ small_end l.at l.sections) × (l.end ≤ MOST_FILE_BYTES)
