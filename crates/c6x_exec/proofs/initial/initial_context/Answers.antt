-- Nothing is noted yet, and the board holds the start bytes.
use Rattle.std.proofs.Common.{refl}
use Rattle.c6x_exec.proofs.Beginning.{none_due, no_target_due, entry_due}
use Rattle.c6x_exec.proofs.initial.initial_context.Goals as goal

pub returns-clause-tracks : goal.returns-clause-tracks
returns-clause-tracks c b bytes areas holds = record {
  order = refl;
  limit = refl;
  cycles = refl;
  output = c.requires.empty;
  registers = c.start_registers.ensures;
  writes = λ t r within after. none_due _ _ t r c.no_writes.ensures.zeros after;
  late_writes = λ t r late. refl;
  arrivals = λ t r within after apart. refl;
  groups = λ t r within after apart. refl;
  targets = λ t after. no_target_due _ _ t (c.no_stamps-2.ensures.none t);
  late_targets = λ t late. refl;
  behind = λ t. entry_due c.args.start.now.entry t;
  bytes = λ t x own after. holds x own;
}
