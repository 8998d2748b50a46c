use Rattle.std.proofs.Common.{◌≡◌, ◌*◌, ◌^◌, ◌≤◌, take, length}
use Rattle.c6x_symbols.specs.Growth.{AreGroups}
use Rattle.c6x_symbols.specs.Mentions.{mentions_from}
use Rattle.c6x_symbols.proofs.mentions.groups_of.Given as goal

abbrev pub invariant-loop-number : goal.invariant-loop-number
invariant-loop-number l = record {
  groups : AreGroups (mentions_from 0 (take l.number l.objects)) l.groups.names l.groups.list.items;
  same : length l.groups.list.items ≡ length l.groups.names;
  few : length l.groups.names ≤ l.number * 2 ^ 20;
}
