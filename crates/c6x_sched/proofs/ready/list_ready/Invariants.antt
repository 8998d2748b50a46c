use Rattle.std.proofs.Common.{◌≡◌, ◌≤◌, drop, ◌++◌}
use Rattle.std.specs.Prelude.{vec_len, vec_capacity}
use Rattle.c6x_sched.specs.Turns.{ready_from}
use Rattle.c6x_sched.proofs.ready.list_ready.Given as goal

abbrev pub invariant-loop-place : goal.invariant-loop-place
invariant-loop-place l = record {
  listed : l.ready.items ++ ready_from l.place (drop l.place l.processes) ≡ ready_from 0 l.processes;
  few : vec_len l.ready ≤ l.place;
  room : vec_capacity l.fn.ready ≤ vec_capacity l.ready;
}
