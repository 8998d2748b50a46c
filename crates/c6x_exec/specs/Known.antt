-- Words whose packet is known.
use Rattle.std.specs.Prelude.{◌≡◌, ◌≤◌, length, take, Ok}
use Rattle.std.specs.List.{All}
use Rattle.c6x_encoding.specs.Spelling.{IsValid}
use Rattle.c6x_packet.specs.Packets.{split_of}
use Rattle.c6x_exec.specs.declared.known.Known.{Known}

-- the instructions are those that the words spell
pub record IsKnown (k : Known) : Type 0 where
  pub few : k.count ≤ 8
  pub words : length k.words ≡ 8
  pub instrs : length k.instrs ≡ 8
  pub split : split_of (take k.count k.words) ≡ Ok (take k.count k.instrs)
  pub valid : All IsValid (take k.count k.instrs)
