-- The parts of a system.
use Rattle.std.specs.Prelude.{ℕ, List}
use Rattle.c6x_exec.specs.declared.process.Process.{Process}
use Rattle.c6x_sched.specs.declared.system.System.{System}

abbrev pub processes_of : System → List Process
processes_of system = system.processes.items

abbrev pub quantum_of : System → ℕ
quantum_of system = system.quantum
