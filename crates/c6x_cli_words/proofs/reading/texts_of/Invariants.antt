-- The words so far are texts, and known.
use Rattle.std.proofs.Common.{◌≡◌, true, map, take}
use Rattle.std.specs.List.{list_all}
use Rattle.c6x_cli_words.specs.Told.{is_known}
use Rattle.c6x_cli_words.proofs.reading.texts_of.Given as goal

abbrev pub invariant-loop-word : goal.invariant-loop-word
invariant-loop-word l = record {
  same : map (λ w. w.now) l.texts.items ≡ take l.word-index l.fn.words.items;
  known : list_all is_known (take l.word-index l.fn.words.items) ≡ true;
}
