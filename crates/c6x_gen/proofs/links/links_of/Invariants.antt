use Rattle.std.proofs.Common.{◌≡◌, ◌+◌, ◌∷◌, []}
use Rattle.c6x_gen.specs.Lists.{each_below}
use Rattle.c6x_gen.specs.Links.{app_link, library_link}
use Rattle.c6x_gen.proofs.links.links_of.Given as goal

abbrev pub invariant-loop-before : goal.invariant-loop-before
invariant-loop-before l = l.links ≡ app_link ∷ each_below l.before (λ before. library_link (before + 1) ∷ [])
