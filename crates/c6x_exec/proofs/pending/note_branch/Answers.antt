-- The target is the newest effect.
use Rattle.std.proofs.Common.{◌∙◌, ◌∷◌, ◌+◌, sym, refl, arith}
use Rattle.c6x_machine.specs.History.{Branches}
use Rattle.c6x_exec.proofs.Noted.{targets_kept, late_target_noted}
use Rattle.c6x_exec.proofs.Registers.{registers_same}
use Rattle.c6x_exec.proofs.pending.note_branch.Goals as goal

pub returns-clause-tracks : goal.returns-clause-tracks
returns-clause-tracks c b s h n k = record {
  order = k.order;
  limit = k.limit;
  cycles = k.cycles;
  output = k.output;
  registers = k.registers ∙ sym (registers_same s.registers (Branches (n + c.args.delay) c.args.target ∷ h) h n (λ t r by. refl));
  writes = k.writes;
  late_writes = k.late_writes;
  arrivals = k.arrivals;
  groups = k.groups;
  targets = targets_kept _ _ h _ n _ _ c.requires.sound.target_stamps c.requires.sound.addresses c.requires.some c.requires.soon k.cycles k.targets k.late_targets;
  late_targets = late_target_noted h n _ _ (omega arith) k.late_targets;
  behind = k.behind;
  bytes = k.bytes;
}
