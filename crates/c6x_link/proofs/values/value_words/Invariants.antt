use Rattle.std.proofs.Common.{◌≡◌, map, take}
use Rattle.c6x_link.specs.Images.{value_word}
use Rattle.c6x_link.proofs.values.value_words.Given as goal

abbrev pub invariant-loop-wanted : goal.invariant-loop-wanted
invariant-loop-wanted l = l.words.items ≡ map (value_word l.link) (take l.wanted-index l.wanted-items)
