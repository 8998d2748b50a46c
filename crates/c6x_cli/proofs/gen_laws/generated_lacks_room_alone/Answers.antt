use Rattle.c6x_cli.proofs.Room.{lacks_room}
use Rattle.c6x_cli.proofs.gen_laws.generated_lacks_room_alone.Goals as goal

pub returns : goal.returns
returns c = lacks_room c.sources_become_modules.ensures c.processes_are_bound.ensures
