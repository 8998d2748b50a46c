use Rattle.c6x_cli_steps.specs.Policies.{first_of}
use Rattle.c6x_cli.proofs.Served.{position_map}
use Rattle.c6x_cli.proofs.serving.first_policy.Goals as goal

pub returns-clause-first : goal.returns-clause-first
unfolding first_of
returns-clause-first g c = rw (position_map _ _ _) c.place_of.ensures.place
