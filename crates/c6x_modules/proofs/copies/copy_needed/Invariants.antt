use Rattle.std.proofs.Common.{◌≡◌, ◌++◌, drop}
use Rattle.c6x_module.specs.Modules.{needed_of}
use Rattle.c6x_modules.proofs.copies.copy_needed.Given as goal

abbrev pub invariant-loop-entry : goal.invariant-loop-entry
invariant-loop-entry l = l.row ++ needed_of l.strings (drop l.entry-index l.entries) ≡ needed_of l.strings l.entries
