use Rattle.std.proofs.Common.{◌≡◌, ◌+◌, ◌-◌, ◌≤◌, drop, length}
use Rattle.c6x_lex.specs.Tokens.{prepend, tokens_from, tokens_of}
use Rattle.c6x_lex.proofs.lexer.lex.Given as goal

abbrev pub invariant-loop-place : goal.invariant-loop-place
invariant-loop-place l = record {
  within : l.place.at ≤ length l.text;
  lines : l.place.line ≤ l.place.at + 1;
  starts : l.place.start ≤ l.place.at;
  rest : prepend l.tokens.items (tokens_from 0 l.place (drop l.place.at l.text)) ≡ tokens_of l.text;
}

abbrev pub decreases-loop-place : goal.decreases-loop-place
decreases-loop-place l = length l.text - l.place.at
