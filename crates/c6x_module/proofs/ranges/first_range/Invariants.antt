use Rattle.std.proofs.Common.{◌≡◌, drop}
use Rattle.c6x_module.specs.Ranges.{first_where, is_range}
use Rattle.c6x_module.proofs.ranges.first_range.Given as goal

abbrev pub invariant-loop-segment : goal.invariant-loop-segment
invariant-loop-segment l = first_where is_range (drop l.segment-index l.segments) ≡ first_where is_range l.segments
