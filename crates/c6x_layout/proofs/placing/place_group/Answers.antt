use Rattle.std.proofs.Common.{◌^◌}
use Rattle.c6x_layout.specs.Groups.{in_group}
use Rattle.c6x_layout.proofs.Laid.{part_below}
use Rattle.c6x_layout.proofs.placing.place_group.Goals as goal

pub place_part-requires : goal.place_part-requires
place_part-requires c =
    part_below (in_group c.args.group) c.loop-part.at c.args.parts.now c.loop-part.part-index _ _ (2 ^ 32) c.loop-part-test.true c.loop-part.invariant.end c.requires
