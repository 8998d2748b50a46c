use Rattle.std.proofs.Common.{◌+◌}
use Rattle.c6x_place.proofs.OnePlacement.{answer_valid}
use Rattle.c6x_place.proofs.Placements.{answer_is}
use Rattle.c6x_place.proofs.placing.place.Goals as goal

pub returns-clause-stands : goal.returns-clause-stands
returns-clause-stands c =
    answer_is c.args.modules.now c.args.processes.now c.args.bound.now.processes c.args.base (c.args.base + c.args.len) _ c.requires.same c.placed.ensures

pub returns-clause-valid : goal.returns-clause-valid
returns-clause-valid c =
    answer_valid c.args.modules.now c.args.processes.now c.args.bound.now.processes c.args.base (c.args.base + c.args.len) _ c.requires.same c.placed.ensures
