use Rattle.std.proofs.Common.{◌≡◌, drop}
use Rattle.c6x_layout.specs.Layouts.{greatest_common}
use Rattle.c6x_layout.proofs.aligning.greatest_common.Given as goal

abbrev pub invariant-loop-number : goal.invariant-loop-number
invariant-loop-number l = (greatest_common l.align (drop l.number l.bindings) ≡ greatest_common l.least l.bindings)
