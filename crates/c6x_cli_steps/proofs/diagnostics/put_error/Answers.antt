use Rattle.c6x_cli_steps.specs.Lines.{missing_line, read_fault_line, memory_line}
use Rattle.c6x_cli_steps.proofs.diagnostics.put_error.Goals as goal

pub returns-in-Because-Missing : goal.returns-in-Because-Missing
unfolding missing_line
returns-in-Because-Missing g c = rw (c.in-Because-Missing.is, c.in-Because-Missing.field-0-is, ← c.as_bytes.ensures) c.put_parts.ensures

pub returns-in-ReadFault : goal.returns-in-ReadFault
unfolding read_fault_line
returns-in-ReadFault g c = rw (c.in-ReadFault.is, ← c.as_bytes-in-ReadFault.ensures) c.put_parts-in-ReadFault.ensures

pub returns-in-Memory : goal.returns-in-Memory
unfolding memory_line
returns-in-Memory g c = rw c.in-Memory.is c.put-in-Memory.ensures.puts
