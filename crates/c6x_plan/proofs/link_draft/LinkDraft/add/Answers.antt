use Rattle.std.proofs.Common.{◌≡◌, true, false, rules}
use Rattle.std.specs.List.{list_any}
use Rattle.std.specs.Str.{bytes_eq}
use Rattle.c6x_plan.proofs.LinkDrafting.{needed_again, needed_added}
use Rattle.c6x_plan.proofs.link_draft.LinkDraft.add.Goals as goal

pub returns-then-has_name : goal.returns-then-has_name
returns-then-has_name c =
    let has : list_any (λ other. bytes_eq other c.in-Needed.name) c.args.self.now.needed ≡ true = search rules in
    rw c.in-Needed.is (needed_again c.args.self.now c.in-Needed.name c.args.line has)

pub returns-else-has_name : goal.returns-else-has_name
returns-else-has_name c =
    let has : list_any (λ other. bytes_eq other c.in-Needed.name) c.args.self.now.needed ≡ false = search rules in
    rw c.in-Needed.is (needed_added c.add_within.result c.args.self.now c.add_within.new.row c.in-Needed.name c.args.line has c.add_within.ensures)
