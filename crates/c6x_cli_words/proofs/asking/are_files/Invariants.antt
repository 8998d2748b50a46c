-- The words so far may stand for files.
use Rattle.std.proofs.Common.{◌≡◌, ℕ, List, true, take, Bor}
use Rattle.std.specs.List.{list_all}
use Rattle.c6x_cli_words.specs.Arguments.{is_positional}
use Rattle.c6x_cli_words.proofs.asking.are_files.Given as goal

abbrev pub invariant-loop-word : goal.invariant-loop-word
invariant-loop-word l = list_all (λ (w : Bor (List ℕ)). is_positional w.now) (take l.word-index l.words) ≡ true
