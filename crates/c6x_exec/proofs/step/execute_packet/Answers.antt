use Rattle.std.proofs.Common.{◌∙◌, refl}
use Rattle.c6x_exec.proofs.Steps.{rows_come}
use Rattle.c6x_exec.proofs.step.execute_packet.Goals as goal

pub returns-clause-comes : goal.returns-clause-comes
returns-clause-comes c s h n areas k =
    rows_come _ _ _ s h n c.args.at _ c.args.instrs.now c.as_slice.result.now c.args.p.now.registers refl k.registers
    (c.as_slice.ensures.value ∙ c.rows_at-rows.ensures.value)
    (c.execute_rows.ensures.comes s h n areas k)
