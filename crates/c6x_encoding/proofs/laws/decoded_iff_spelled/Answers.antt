use Rattle.std.proofs.Common.{refl}
use Rattle.c6x_encoding.specs.Decoded.{decoded}
use Rattle.c6x_encoding.proofs.Answering.{spelled_iff}
use Rattle.c6x_encoding.proofs.laws.decoded_iff_spelled.Goals as goal

pub returns : goal.returns
returns c i word = spelled_iff (decoded word) word refl i
