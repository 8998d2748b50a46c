use Rattle.std.proofs.Common.{◌≡◌, ◌+◌, drop}
use Rattle.std.specs.List.{position_or_len}
use Rattle.c6x_asm_lines.specs.Grammar.{is_comma}
use Rattle.c6x_asm_lines.proofs.operands.comma_at.Given as goal

abbrev pub invariant-loop-lexeme : goal.invariant-loop-lexeme
invariant-loop-lexeme l = record {
  counted : l.n ≡ l.lexeme-index;
  rest : position_or_len is_comma l.lexemes ≡ l.n + position_or_len is_comma (drop l.lexeme-index l.lexemes);
}
