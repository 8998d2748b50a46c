use Rattle.std.proofs.Common.{◌≡◌, drop}
use Rattle.c6x_module.specs.Ranges.{first_where, is_text}
use Rattle.c6x_module.proofs.ranges.first_text.Given as goal

abbrev pub invariant-loop-segment : goal.invariant-loop-segment
invariant-loop-segment l = first_where is_text (drop l.segment-index l.segments) ≡ first_where is_text l.segments
