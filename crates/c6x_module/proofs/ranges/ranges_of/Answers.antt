use Rattle.std.proofs.Common.{rules}
use Rattle.c6x_module.proofs.RangeWalks.{are_ranges}
use Rattle.c6x_module.proofs.ranges.ranges_of.Goals as goal

pub returns-then-share_none-clause-kept : goal.returns-then-share_none-clause-kept
returns-then-share_none-clause-kept c =
    are_ranges c.args.segments.now c.in_ok-text.text.now c.in_ok-range.range.now (search rules) (search rules) (search rules) (search rules)
