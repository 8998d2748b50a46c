use Rattle.c6x_symbols.proofs.Grouping.{no_groups}
use Rattle.c6x_symbols.proofs.groups.Groups.new.Goals as goal

pub returns-clause-groups : goal.returns-clause-groups
returns-clause-groups c = no_groups c.new.result c.new-2.result.items c.new.ensures c.new-2.ensures.items
