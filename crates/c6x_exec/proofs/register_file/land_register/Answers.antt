use Rattle.std.proofs.Common.{sym}
use Rattle.std.proofs.lemmas.List.{set-get_or}
use Rattle.c6x_exec.proofs.Slots.{due_here, due_elsewhere}
use Rattle.c6x_exec.proofs.register_file.land_register.Goals as goal

pub returns-then-stamps-slot : goal.returns-then-stamps-slot
returns-then-stamps-slot c = rw (due_here c.args.stamps.now c.args.values.now c.args.at c.args.register _ c.write_slot-slot.ensures.value c.if-stamps-slot.true) c.set_register.ensures

pub returns-else-stamps-slot : goal.returns-else-stamps-slot
returns-else-stamps-slot c = rw (due_elsewhere c.args.stamps.now c.args.values.now c.args.at c.args.register _ c.write_slot-slot.ensures.value c.if-stamps-slot.false) (sym (set-get_or c.args.registers.now c.args.register 0))
