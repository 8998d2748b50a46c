use Rattle.std.proofs.Common.{◌≡◌, drop}
use Rattle.c6x_modules.specs.Indexed.{first_named}
use Rattle.c6x_modules.proofs.name_index.first_named.Given as goal

abbrev pub invariant-loop-number : goal.invariant-loop-number
invariant-loop-number l = first_named l.symbols l.name (drop l.number-index l.numbers) ≡ first_named l.symbols l.name l.numbers
