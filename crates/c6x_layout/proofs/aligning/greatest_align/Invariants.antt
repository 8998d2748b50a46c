use Rattle.std.proofs.Common.{◌≡◌, drop}
use Rattle.std.specs.Prelude.{filter}
use Rattle.c6x_layout.specs.Groups.{in_group}
use Rattle.c6x_layout.specs.Layouts.{greatest_align}
use Rattle.c6x_layout.proofs.aligning.greatest_align.Given as goal

abbrev pub invariant-loop-part : goal.invariant-loop-part
invariant-loop-part l = (greatest_align l.align (filter (in_group l.group) (drop l.part-index l.parts)) ≡ greatest_align l.least (filter (in_group l.group) l.parts))
