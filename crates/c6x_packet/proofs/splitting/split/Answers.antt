use Rattle.c6x_packet.proofs.Relation.{answer_packet, answer_broken, answer_valid}
use Rattle.c6x_packet.proofs.splitting.split.Goals as goal

pub returns : goal.returns
returns c = record {
  packet = answer_packet c.args.words.now c.tested_packet.result c.requires c.tested_packet.ensures;
  broken = answer_broken c.args.words.now c.tested_packet.result c.tested_packet.ensures;
  value = c.tested_packet.ensures;
  valid = answer_valid c.args.words.now c.tested_packet.result c.requires c.tested_packet.ensures;
}
