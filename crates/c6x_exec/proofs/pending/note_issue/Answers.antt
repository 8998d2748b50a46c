-- The issue is the newest effect, and nothing lands by it.
use Rattle.std.proofs.Common.{◌∙◌, ◌∷◌, sym, refl}
use Rattle.c6x_machine.specs.History.{Issues}
use Rattle.c6x_exec.proofs.Noted.{behind_kept}
use Rattle.c6x_exec.proofs.Registers.{registers_same}
use Rattle.c6x_exec.proofs.pending.note_issue.Goals as goal

pub returns-clause-tracks : goal.returns-clause-tracks
returns-clause-tracks c b s h n k = record {
  order = k.order;
  limit = k.limit;
  cycles = k.cycles;
  output = k.output;
  registers = k.registers ∙ sym (registers_same s.registers (Issues n c.args.next c.args.wait ∷ h) h n (λ t r by. refl));
  writes = k.writes;
  late_writes = k.late_writes;
  arrivals = k.arrivals;
  groups = k.groups;
  targets = k.targets;
  late_targets = k.late_targets;
  behind = λ t. behind_kept _ n c.args.wait c.args.next t k.cycles;
  bytes = k.bytes;
}
