-- A process that has lived, and its line.
use Rattle.std.proofs.Common.{◌≡◌, ℕ, List, refl}
use Rattle.std.specs.Prelude.{Some}
use Rattle.c6x_machine.specs.declared.end.End.{End}
use Rattle.c6x_machine.specs.History.{output_of}
use Rattle.c6x_machine.specs.Machine.{life}
use Rattle.c6x_machine.specs.Origin.{Origin}
use Rattle.c6x_cli_run.specs.Ends.{last_of, life_line, process_line}

pub life_line_is : (name : List ℕ) (s : Origin) (end : End) (cycles : ℕ) (output : List ℕ) → (last_of s).ended ≡ Some end → cycles ≡ life s → output ≡ output_of (last_of s).history → life_line name s ≡ process_line name end cycles output
unfolding life_line
life_line_is name s end cycles output ended count bytes = rw (ended, count, bytes) refl
