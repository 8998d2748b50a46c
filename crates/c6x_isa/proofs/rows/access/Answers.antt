use Rattle.std.proofs.Common.{ℕ, sym, ◌∙◌, ap}
use Rattle.c6x_encoding.specs.declared.op.Op.{Op}
use Rattle.c6x_encoding.specs.Rows.{op_effects}
use Rattle.c6x_isa.proofs.rows.access.Goals as goal

pub returns-in-Short-clause-row : goal.returns-in-Short-clause-row
returns-in-Short-clause-row c = λ (at : ℕ) (next : ℕ).
    c.short.ensures.row at next ∙ ap (λ (op : Op). op_effects op at next c.args.regs.now) (sym c.in-Short.is)
