use Rattle.c6x_base.proofs.OneList.{ok_search, ok_few, ok_members}
use Rattle.c6x_base.proofs.breadth.search.Goals as goal

pub returns-clause-list : goal.returns-clause-list
returns-clause-list c =
    ok_search (λ list. list.items) _ _ _ c.looked_at_all.ensures c.requires.first c.requires.known

pub returns-clause-few : goal.returns-clause-few
returns-clause-few c =
    ok_few (λ list. list.items) _ _ _ c.looked_at_all.ensures c.requires.first c.requires.known

pub returns-clause-members : goal.returns-clause-members
returns-clause-members c =
    ok_members (λ list. list.items) _ _ _ c.looked_at_all.ensures c.requires.first c.requires.known
