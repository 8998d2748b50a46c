use Rattle.std.proofs.Common.{refl, inl}
use Rattle.c6x_machine.proofs.laws.starts_have_no_first_part.Goals as goal

pub returns : goal.returns
returns c big start bytes areas some = record { limit = some; first = inl (refl, refl) }
