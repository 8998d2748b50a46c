use Rattle.std.proofs.Common.{◌∷◌, [], refl}
use Rattle.c6x_exec.proofs.Steps.{rows_come}
use Rattle.c6x_exec.proofs.step.execute_instr.Goals as goal

pub returns-clause-comes : goal.returns-clause-comes
returns-clause-comes c s h n areas k =
    rows_come _ _ _ s h n c.args.at _ (c.args.instr.now ∷ []) (c.effects-row.result ∷ []) c.args.p.now.registers refl k.registers
    (rw c.effects-row.ensures.row refl)
    (c.execute_row.ensures.comes s h n areas k)
