use Rattle.std.proofs.Common.{◌≡◌, ◌≤◌, ◌*◌, ℕ}
use Rattle.c6x_spec.specs.Memory.{Memory}
use Rattle.c6x_machine.specs.Origin.{Origin}
use Rattle.c6x_sched.specs.Ended.{AllHaveLived}
use Rattle.c6x_sched.specs.System.{processes_of}
use Rattle.c6x_cli.specs.Sums.{exit_of, sum_of}
use Rattle.c6x_cli.proofs.sums.exits_of.Given as goal

abbrev pub invariant-loop-number : goal.invariant-loop-number
invariant-loop-number l = record {
  fits : l.sum ≤ 4294967295 * l.number;
  is : (b : Memory) (s : ℕ → Origin) → AllHaveLived (processes_of l.system) b s → l.sum ≡ sum_of l.number (λ process. exit_of (s process));
}
