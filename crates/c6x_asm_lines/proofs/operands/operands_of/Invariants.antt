use Rattle.std.proofs.Common.{◌≡◌, ◌≤◌, ◌-◌, length, drop}
use Rattle.std.specs.List.{slice_split}
use Rattle.c6x_asm_lines.specs.Grammar.{is_comma, all_operands, operands_of}
use Rattle.c6x_asm_lines.proofs.Pieces.{behind}
use Rattle.c6x_asm_lines.proofs.operands.operands_of.Given as goal

abbrev pub invariant-loop-operand : goal.invariant-loop-operand
invariant-loop-operand l = record {
  within : l.from ≤ length l.lexemes;
  read : behind l.operands.items (all_operands (slice_split is_comma (drop l.from l.lexemes))) ≡ operands_of l.lexemes;
}

abbrev pub decreases-loop-operand : goal.decreases-loop-operand
decreases-loop-operand l = length l.lexemes - l.from
