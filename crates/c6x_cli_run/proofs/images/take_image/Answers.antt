use Rattle.std.proofs.Common.{rules, ◌≡◌, false, sym, subst}
use Rattle.std.specs.Prelude.{None}
use Rattle.c6x_module.specs.Modules.{module_in}
use Rattle.c6x_modules.specs.Owned.{refusal_of, with_module}
use Rattle.c6x_cli_run.specs.Loading.{HasAdded}
use Rattle.c6x_cli_run.proofs.Taking.{has_added}
use Rattle.c6x_cli_run.proofs.images.take_image.Goals as goal

pub returns-in-Ok-add-clause-added : goal.returns-in-Ok-add-clause-added
returns-in-Ok-add-clause-added c =
    let none : refusal_of (module_in false c.args.image.now.name c.args.file) ≡ None = search rules in
    let is : c.add.new.self ≡ with_module c.args.modules (module_in false c.args.image.now.name c.args.file) = search rules in
    subst (HasAdded c.args.modules c.args.image.now.name) (sym is) (has_added c.args.modules c.args.image.now.name c.args.file none)
