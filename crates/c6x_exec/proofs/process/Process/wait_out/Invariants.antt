use Rattle.std.proofs.Common.{◌≡◌, ℕ, ◌+◌, ◌-◌, ◌≤◌, None}
use Rattle.c6x_spec.specs.Memory.{Memory}
use Rattle.c6x_machine.specs.Origin.{Origin}
use Rattle.c6x_exec.specs.Process.{areas_of, ended_of, cycles_of, limit_of, StandsFor}
use Rattle.c6x_exec.proofs.process.Process.wait_out.Given as goal

abbrev pub invariant-loop-done : goal.invariant-loop-done
invariant-loop-done l = record {
  running : ended_of l.self ≡ None;
  stands : (b : Memory) (s : Origin) (n : ℕ) → StandsFor l.fn.self b s n → StandsFor l.self b s (n + l.done);
  areas : areas_of l.self ≡ areas_of l.fn.self;
  cycles : cycles_of l.self ≡ cycles_of l.fn.self + l.done;
  limit : limit_of l.self ≡ limit_of l.fn.self;
  few : l.done ≤ l.most;
}

abbrev pub decreases-loop-done : goal.decreases-loop-done
decreases-loop-done l = l.most - l.done
