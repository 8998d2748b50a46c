use Rattle.std.proofs.Common.{◌≡◌, drop}
use Rattle.c6x_module.specs.Entries.{tag_value}
use Rattle.c6x_module.proofs.entries.tag_value.Given as goal

abbrev pub invariant-loop-entry : goal.invariant-loop-entry
invariant-loop-entry l = tag_value l.tag (drop l.entry-index l.entries) ≡ tag_value l.tag l.entries
