use Rattle.std.proofs.Common.{◌≡◌, [], Ok, drop}
use Rattle.c6x_asm_instr.specs.Directives.{fields_from}
use Rattle.c6x_asm_instr.specs.Fields.{sofar}
use Rattle.c6x_asm_instr.proofs.fields.fields_of.Given as goal

abbrev pub invariant-loop-operand : goal.invariant-loop-operand
invariant-loop-operand l = fields_from l.text l.size (sofar l.fields.items l.fault) (drop l.operand-index l.operands) ≡ fields_from l.text l.size (Ok []) l.operands
