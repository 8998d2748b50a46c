-- The bytes stored are seen from the next cycle on.
use Rattle.std.proofs.Common.{◌∷◌, ◌∙◌, sym, refl, false}
use Rattle.c6x_machine.specs.History.{Stores}
use Rattle.c6x_machine.specs.Packet.{low_bytes}
use Rattle.c6x_exec.proofs.Bytes.{framed, byte_stored}
use Rattle.c6x_exec.proofs.Registers.{registers_same}
use Rattle.c6x_exec.proofs.memory.store.Goals as goal

pub returns-clause-tracks : goal.returns-clause-tracks
returns-clause-tracks c p s h n lie k = record {
  order = k.order;
  limit = k.limit;
  cycles = k.cycles;
  output = k.output;
  registers = k.registers ∙ sym (registers_same s.registers (Stores n c.args.at (low_bytes false c.args.size c.args.value) ∷ h) h n (λ t r by. refl));
  writes = k.writes;
  late_writes = k.late_writes;
  arrivals = k.arrivals;
  groups = k.groups;
  targets = k.targets;
  late_targets = k.late_targets;
  behind = k.behind;
  bytes = λ t x own after. byte_stored _ _ s.bytes h n t c.args.at x (low_bytes false c.args.size c.args.value) after (lie x own).above c.write_low.ensures (k.bytes t x own after);
}

pub returns-clause-frame : goal.returns-clause-frame
returns-clause-frame c areas access at size clean = framed _ _ areas access c.args.at c.args.size c.args.value at size clean c.write_low.ensures
