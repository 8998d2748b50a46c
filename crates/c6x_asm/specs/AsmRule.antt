-- The rules of a text, given out to those who cite them.
pub use Rattle.c6x_asm_lines.specs.declared.rule.AsmRule.{AsmRule}
pub use Rattle.c6x_asm_lines.specs.declared.rule.AsmRule.TheVariants.{BadByte, Syntax, UnknownWord, Operand, Range, Packet, DuplicateLabel, NoSection, Large}
