use Rattle.std.proofs.Common.{◌≡◌, take}
use Rattle.std.specs.List.{enumerate_from, flat_map}
use Rattle.c6x_link.specs.Words.{word_rela}
use Rattle.c6x_link.proofs.loader_words.word_relas.Given as goal

abbrev pub invariant-loop-place : goal.invariant-loop-place
invariant-loop-place l = l.relas.items ≡ flat_map (word_rela l.link) (enumerate_from 0 (take l.place l.wanted-items))
