use Rattle.std.proofs.Common.{◌≡◌, None, drop}
use Rattle.c6x_asm_instr.specs.Kinds.{kinds_from}
use Rattle.c6x_asm_instr.proofs.kinds.kinds_fault.Given as goal

abbrev pub invariant-loop-operand : goal.invariant-loop-operand
invariant-loop-operand l = kinds_from l.text l.fault (drop l.operand-index l.operands) ≡ kinds_from l.text None l.operands
