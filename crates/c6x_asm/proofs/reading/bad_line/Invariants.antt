use Rattle.std.proofs.Common.{◌≡◌, None, drop}
use Rattle.c6x_asm.specs.Reading.{bad_line}
use Rattle.c6x_asm.proofs.reading.bad_line.Given as goal

abbrev pub invariant-loop-section : goal.invariant-loop-section
invariant-loop-section l = bad_line l.line (drop l.section-index l.sections) ≡ bad_line None l.sections
