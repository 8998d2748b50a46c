use Rattle.std.proofs.Common.{◌≡◌, ◌+◌, ◌∷◌, []}
use Rattle.c6x_gen.specs.Lists.{each_below}
use Rattle.c6x_gen.specs.Links.{app_name}
use Rattle.c6x_gen.specs.Plans.{module_named}
use Rattle.c6x_gen.specs.Sources.{library_name}
use Rattle.c6x_gen.proofs.plans.modules_of.Given as goal

abbrev pub invariant-loop-before : goal.invariant-loop-before
invariant-loop-before l =
    l.modules ≡ module_named app_name ∷ each_below l.before (λ before. module_named (library_name (before + 1)) ∷ [])
