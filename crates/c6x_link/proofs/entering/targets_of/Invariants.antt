use Rattle.std.proofs.Common.{◌≡◌, map, take}
use Rattle.c6x_link.specs.Targets.{target_of}
use Rattle.c6x_link.proofs.entering.targets_of.Given as goal

abbrev pub invariant-loop-one : goal.invariant-loop-one
invariant-loop-one l = (l.targets.items ≡ map (target_of l.link) (take l.one-index l.wanted))
