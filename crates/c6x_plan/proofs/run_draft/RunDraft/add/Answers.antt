use Rattle.std.proofs.Common.{◌≡◌, true, false, rules}
use Rattle.c6x_plan.specs.RunLines.{has_module}
use Rattle.c6x_plan.proofs.RunDrafting.{module_again, module_added}
use Rattle.c6x_plan.proofs.run_draft.RunDraft.add.Goals as goal

pub returns-then-has_module : goal.returns-then-has_module
returns-then-has_module c =
    let has : has_module c.args.self.now.modules c.in-Module.image.name ≡ true = search rules in
    rw c.in-Module.is (module_again c.args.self.now c.in-Module.image c.args.line has)

pub returns-else-has_module : goal.returns-else-has_module
returns-else-has_module c =
    let has : has_module c.args.self.now.modules c.in-Module.image.name ≡ false = search rules in
    rw c.in-Module.is (module_added c.add_within.result c.args.self.now c.add_within.new.row c.in-Module.image c.args.line has c.add_within.ensures)
