use Rattle.std.proofs.Common.{◌≡◌, ◌∷◌, []}
use Rattle.c6x_gen.specs.Lists.{each_below}
use Rattle.c6x_gen.specs.Plans.{process_numbered}
use Rattle.c6x_gen.proofs.plans.processes_of.Given as goal

abbrev pub invariant-loop-process : goal.invariant-loop-process
invariant-loop-process l = l.processes ≡ each_below l.process (λ number. process_numbered l.number number ∷ [])
