use Rattle.std.proofs.Common.{arith, ◌≤◌, length}
use Rattle.c6x_layout.proofs.Rows.{bound_past}
use Rattle.c6x_layout.proofs.regions.Regions.bound.Goals as goal

pub returns-then-number-len : goal.returns-then-number-len
returns-then-number-len c = λ objects are.
    let past : length c.args.bindings.now ≤ c.args.number = omega (arith, c.len.ensures.value, c.if-number-len.true) in
    bound_past objects c.args.bindings.now c.args.number past
