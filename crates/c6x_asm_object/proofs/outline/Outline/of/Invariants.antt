use Rattle.std.proofs.Common.{take}
use Rattle.c6x_asm_object.specs.Sums.{AreBlocks}
use Rattle.c6x_asm_object.proofs.outline.Outline.of.Given as goal

abbrev pub invariant-loop-place : goal.invariant-loop-place
invariant-loop-place l = AreBlocks l.text (take l.place l.sections) l.outline
