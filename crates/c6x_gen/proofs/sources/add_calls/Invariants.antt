use Rattle.std.proofs.Common.{◌≡◌, ◌++◌}
use Rattle.c6x_gen.specs.Lists.{each_below}
use Rattle.c6x_gen.specs.Sources.{call_line}
use Rattle.c6x_gen.proofs.sources.add_calls.Given as goal

abbrev pub invariant-loop-line : goal.invariant-loop-line
invariant-loop-line l = l.text ≡ l.fn.text ++ each_below l.line (call_line l.number)
