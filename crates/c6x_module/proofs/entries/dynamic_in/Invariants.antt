use Rattle.std.proofs.Common.{◌≡◌, drop}
use Rattle.c6x_module.specs.Entries.{dynamic_in}
use Rattle.c6x_module.proofs.entries.dynamic_in.Given as goal

abbrev pub invariant-loop-segment : goal.invariant-loop-segment
invariant-loop-segment l = dynamic_in (drop l.segment-index l.segments) ≡ dynamic_in l.segments
