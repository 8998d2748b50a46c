use Rattle.std.proofs.Common.{sym, ◌∙◌, refl, ap}
use Rattle.c6x_encoding.specs.declared.op.Op.TheVariants.{Two}
use Rattle.c6x_encoding.specs.Encoded.{two_code}
use Rattle.c6x_encoding.proofs.Answering.{two_encoded, two_none}
use Rattle.c6x_encoding.proofs.words.operation_word.Goals as goal

pub returns-in_err-two_bits : goal.returns-in_err-two_bits
returns-in_err-two_bits c =
    c.from_residual.ensures
    ∙ two_none (record { condition = c.args.head.condition; op = Two c.args.unit c.args.arith c.args.side c.args.cross c.args.first c.args.second c.args.dst; chained = c.args.head.chained }) c.args.unit c.args.arith c.args.side c.args.cross c.args.first c.args.second c.args.dst refl
    (ap (two_code c.args.unit c.args.arith) (sym c.has_constant.ensures) ∙ sym c.two_bits.ensures ∙ c.in_err-two_bits.was)

pub returns : goal.returns
returns c =
    c.two_word.ensures
    ∙ two_encoded (record { condition = c.args.head.condition; op = Two c.args.unit c.args.arith c.args.side c.args.cross c.args.first c.args.second c.args.dst; chained = c.args.head.chained }) c.args.unit c.args.arith c.args.side c.args.cross c.args.first c.args.second c.args.dst _ _ refl
    (ap (two_code c.args.unit c.args.arith) (sym c.has_constant.ensures) ∙ sym c.two_bits.ensures ∙ c.in_ok-two_bits.was)
    c.condition_number.ensures refl refl c.first_number.ensures c.bit.ensures c.side_number.ensures c.bit-2.ensures
