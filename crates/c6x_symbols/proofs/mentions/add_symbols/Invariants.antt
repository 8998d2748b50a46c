use Rattle.std.proofs.Common.{◌≡◌, ◌+◌, ◌≤◌, List, ◌++◌, take, length}
use Rattle.c6x_symbols.specs.Growth.{AreGroups}
use Rattle.c6x_symbols.specs.Mentions.{Named, mentions_along}
use Rattle.c6x_symbols.proofs.mentions.add_symbols.Given as goal

abbrev pub invariant-loop-number : goal.invariant-loop-number
invariant-loop-number l = record {
  groups : (xs : List Named) → AreGroups xs l.fn.groups.names l.fn.groups.list.items → AreGroups (xs ++ mentions_along l.strings l.object 0 (take l.number l.table)) l.groups.names l.groups.list.items;
  same : length l.groups.list.items ≡ length l.groups.names;
  few : length l.groups.names ≤ length l.fn.groups.names + l.number;
}
