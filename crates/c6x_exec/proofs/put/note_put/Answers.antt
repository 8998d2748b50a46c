-- The byte is the newest effect.
use Rattle.std.proofs.Common.{ℕ, List, ◌∙◌, ◌∷◌, [], ◌++◌, ap, sym, refl}
use Rattle.c6x_machine.specs.History.{Puts}
use Rattle.c6x_exec.proofs.Registers.{registers_same}
use Rattle.c6x_exec.proofs.put.note_put.Goals as goal

pub returns-clause-tracks : goal.returns-clause-tracks
returns-clause-tracks c b s h n k = record {
  order = k.order;
  limit = k.limit;
  cycles = k.cycles;
  output = c.in-Ok.ensures.items ∙ ap (λ (all : List ℕ). all ++ c.args.byte ∷ []) k.output;
  registers = k.registers ∙ sym (registers_same s.registers (Puts n c.args.byte ∷ h) h n (λ t r by. refl));
  writes = k.writes;
  late_writes = k.late_writes;
  arrivals = k.arrivals;
  groups = k.groups;
  targets = k.targets;
  late_targets = k.late_targets;
  behind = k.behind;
  bytes = k.bytes;
}
