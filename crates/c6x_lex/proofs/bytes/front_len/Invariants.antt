use Rattle.std.proofs.Common.{◌≡◌, ◌+◌, drop}
use Rattle.std.specs.List.{prefix_len}
use Rattle.c6x_lex.specs.Classes.{is_of}
use Rattle.c6x_lex.proofs.bytes.front_len.Given as goal

abbrev pub invariant-loop-b : goal.invariant-loop-b
invariant-loop-b l = record {
  counted : l.n ≡ l.b-index;
  rest : prefix_len (is_of l.class) l.bytes ≡ l.n + prefix_len (is_of l.class) (drop l.b-index l.bytes);
}
