use Rattle.c6x_exec.proofs.Slots.{is_taken}
use Rattle.c6x_exec.proofs.pending.is_write_pending.Goals as goal

pub returns : goal.returns
returns c = is_taken c.args.p.now.writes.stamps c.args.p.now.writes.values _ _ c.write_slot.result c.write_slot.ensures.value
