use Rattle.std.proofs.Common.{ℕ, List, ◌++◌, drop}
use Rattle.c6x_exec.specs.declared.process.Process.{Process}
use Rattle.c6x_load.specs.ProcessLaws.{AreAllBelow}
use Rattle.c6x_load.specs.Made.{AreMade}
use Rattle.c6x_load.specs.Starts.{origins_of}
use Rattle.c6x_load.proofs.processes.make_processes.Given as goal

abbrev pub invariant-loop-number : goal.invariant-loop-number
invariant-loop-number l = record {
  made : (bytes : ℕ → ℕ) (rest : List Process) → AreMade rest (origins_of l.modules l.texts bytes (drop l.number l.processes) (drop l.number l.bounds) (drop l.number l.seats)) → AreMade (l.made.items ++ rest) (origins_of l.modules l.texts bytes l.processes l.bounds l.seats);
  below : AreAllBelow l.modules l.texts (drop l.number l.processes) (drop l.number l.bounds) (drop l.number l.seats);
}
