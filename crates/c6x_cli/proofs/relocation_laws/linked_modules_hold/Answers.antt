use Rattle.c6x_cli.proofs.Loaded.{modules_hold}
use Rattle.c6x_cli.proofs.relocation_laws.linked_modules_hold.Goals as goal

pub returns : goal.returns
returns c = λ files name before loading start is process f finding position m text base member objects plan of.
    modules_hold files name before loading start is process f finding position m text base member objects plan of
