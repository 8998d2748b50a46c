use Rattle.std.proofs.Common.{◌++◌, take, arith}
use Rattle.c6x_symbols.specs.Mentions.{mentions_along}
use Rattle.c6x_symbols.proofs.Mentioned.{more_mentions}
use Rattle.c6x_symbols.proofs.mentions.add_symbols.Goals as goal

pub loop-number-preserved : goal.loop-number-preserved
loop-number-preserved c = record {
  groups = λ xs was.
      more_mentions c.args.strings.now c.args.object c.args.table.now c.loop-number.number _ xs c.add_symbol.new.groups.names c.add_symbol.new.groups.list.items (omega arith)
      (c.in_ok-add_symbol.ensures.groups
      (xs ++ mentions_along c.args.strings.now c.args.object 0 (take c.loop-number.number c.args.table.now))
      (c.loop-number.invariant.groups xs was));
  same = c.in_ok-add_symbol.ensures.same;
  few = omega (arith, c.in_ok-add_symbol.ensures.few, c.loop-number.invariant.few);
}
