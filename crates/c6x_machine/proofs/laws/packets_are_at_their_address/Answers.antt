use Rattle.c6x_machine.proofs.AtAddress.{packet_at_words}
use Rattle.c6x_machine.specs.History.{number_at}
use Rattle.c6x_machine.specs.Packet.{may_run}
use Rattle.c6x_machine.proofs.laws.packets_are_at_their_address.Goals as goal

pub returns : goal.returns
returns c s h t at words instrs below found split_is =
    packet_at_words (may_run s.areas) (λ x. number_at s.big s.bytes h t x 4) at words instrs below found split_is
