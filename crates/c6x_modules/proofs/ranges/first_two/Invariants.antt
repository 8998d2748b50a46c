use Rattle.std.proofs.Common.{◌≡◌, length}
use Rattle.c6x_module.specs.Ranges.{first_where, is_range, is_text}
use Rattle.c6x_modules.specs.Surveyed.{or_later}
use Rattle.c6x_modules.proofs.ranges.first_two.Given as goal

abbrev pub invariant-loop-segment : goal.invariant-loop-segment
invariant-loop-segment l = record {
  text : or_later (first_where is_text l.segments.items) l.text ≡ first_where is_text l.initial.segments.items;
  range : or_later (first_where is_range l.segments.items) l.range ≡ first_where is_range l.initial.segments.items;
}

abbrev pub decreases-loop-segment : goal.decreases-loop-segment
decreases-loop-segment l = length l.segments.items
