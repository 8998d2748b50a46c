use Rattle.std.proofs.Common.{◌≡◌, map, take}
use Rattle.std.specs.List.{enumerate_from}
use Rattle.c6x_link.specs.Words.{stub_rela}
use Rattle.c6x_link.proofs.loader_words.stub_relas.Given as goal

abbrev pub invariant-loop-place : goal.invariant-loop-place
invariant-loop-place l = l.relas.items ≡ map (stub_rela l.link) (enumerate_from 0 (take l.place l.number-items))
