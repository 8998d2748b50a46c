use Rattle.std.proofs.Common.{◌≡◌, drop, length}
use Rattle.c6x_spec.specs.Memory.{CanStart}
use Rattle.c6x_spec.specs.Parts.{filled_with, AreOn}
use Rattle.c6x_load.specs.Loaded.{text_parts}
use Rattle.c6x_load.proofs.texts.fill_texts.Given as goal

abbrev pub invariant-loop-k : goal.invariant-loop-k
invariant-loop-k l = record {
  rest : filled_with (text_parts (drop l.k l.modules) (drop l.k l.texts)) l.board ≡ filled_with (text_parts l.modules l.texts) l.fn.board;
  room : AreOn l.board (text_parts (drop l.k l.modules) (drop l.k l.texts));
  memory : CanStart l.board.base (length l.board.bytes);
}
