use Rattle.c6x_packet.proofs.Relation.{split_ok, split_err}
use Rattle.c6x_packet.proofs.laws.split_is_packet_or_first_broken.Goals as goal

pub returns : goal.returns
returns c = record { packet = split_ok; broken = split_err }
