use Rattle.std.proofs.Common.{◌≡◌, ◌+◌, ◌∷◌, []}
use Rattle.c6x_gen.specs.Lists.{each_below}
use Rattle.c6x_gen.specs.Sources.{app_source, library_source}
use Rattle.c6x_gen.proofs.sources.sources_of.Given as goal

abbrev pub invariant-loop-before : goal.invariant-loop-before
invariant-loop-before l = l.sources ≡ app_source l.number ∷ each_below l.before (λ before. library_source l.number (before + 1) ∷ [])
