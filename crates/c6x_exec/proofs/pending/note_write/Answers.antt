-- The write is the newest effect, and lands after this cycle.
use Rattle.std.proofs.Common.{◌∙◌, sym, arith}
use Rattle.c6x_exec.proofs.Noted.{writes_kept, late_noted, arrivals_kept, groups_kept}
use Rattle.c6x_exec.proofs.Registers.{registers_noted}
use Rattle.c6x_exec.proofs.pending.note_write.Goals as goal

pub returns-clause-tracks : goal.returns-clause-tracks
returns-clause-tracks c b s h n k = record {
  order = k.order;
  limit = k.limit;
  cycles = k.cycles;
  output = k.output;
  registers = k.registers ∙ sym (registers_noted s.registers h n _ _ _ (omega arith));
  writes = writes_kept _ _ h _ n _ _ _ _ _ c.requires.sound.stamps c.requires.sound.values (omega arith) c.requires.fits.delay k.cycles c.register_place.ensures.value c.write_slot-slot.ensures.value k.writes k.late_writes;
  late_writes = late_noted h n _ _ _ (omega arith) k.late_writes;
  arrivals = arrivals_kept _ h _ n _ _ _ c.requires.sound.arrivals (omega arith) c.requires.fits.delay k.cycles k.arrivals k.late_writes;
  groups = groups_kept _ h _ n _ _ _ _ _ c.requires.sound.groups (omega arith) c.requires.fits.delay k.cycles c.register_place.ensures.value c.write_slot-slot.ensures.value k.groups k.late_writes;
  targets = k.targets;
  late_targets = k.late_targets;
  behind = k.behind;
  bytes = k.bytes;
}
