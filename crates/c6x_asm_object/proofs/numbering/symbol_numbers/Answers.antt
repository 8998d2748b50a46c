use Rattle.std.proofs.Common.{arith}
use Rattle.c6x_asm_object.proofs.Counts.{numbers_small}
use Rattle.c6x_asm_object.proofs.numbering.symbol_numbers.Goals as goal

pub returns-clause-below : goal.returns-clause-below
returns-clause-below c =
    numbers_small c.args.sections c.args.symbols.now c.loop-symbol.numbers.items c.loop-symbol.symbol-index (omega arith) c.loop-symbol.invariant.made
