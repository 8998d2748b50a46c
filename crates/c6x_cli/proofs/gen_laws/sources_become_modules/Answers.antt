use Rattle.c6x_cli.proofs.Room.{become_modules}
use Rattle.c6x_cli.proofs.gen_laws.sources_become_modules.Goals as goal

pub returns : goal.returns
returns c = become_modules c.sources_are_assembled.ensures c.modules_are_read.ensures.executable c.modules_are_read.ensures.libraries
