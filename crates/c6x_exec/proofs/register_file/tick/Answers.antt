-- Only the registers and the cycle go on.
use Rattle.std.proofs.Common.{◌+◌, ap, arith, ℕ}
use Rattle.c6x_exec.proofs.Registers.{registers_landed, nothing_due, nothing_due_group}
use Rattle.c6x_exec.proofs.register_file.tick.Goals as goal

pub returns-clause-tracks : goal.returns-clause-tracks
returns-clause-tracks c b s h n k = record {
  order = k.order;
  limit = k.limit;
  cycles = ap (λ (m : ℕ). m + 1) k.cycles;
  output = k.output;
  registers = registers_landed s.registers h _ n _ _ _ _ k.cycles k.registers c.land_due.ensures.whole (λ r within. k.writes (n + 1) r within (omega arith)) (λ r within. c.land_due.ensures.landed r within (nothing_due _ _ _ h _ n r k.cycles (k.writes (n + 1) r within (omega arith)) (k.arrivals (n + 1) r within (omega arith))) (nothing_due_group _ _ _ h _ n r k.cycles (k.writes (n + 1) r within (omega arith)) (k.groups (n + 1) r within (omega arith))));
  writes = λ t r within after. k.writes t r within (omega arith);
  late_writes = k.late_writes;
  arrivals = λ t r within after apart. k.arrivals t r within (omega arith) apart;
  groups = λ t r within after apart. k.groups t r within (omega arith) apart;
  targets = k.targets;
  late_targets = k.late_targets;
  behind = k.behind;
  bytes = k.bytes;
}
