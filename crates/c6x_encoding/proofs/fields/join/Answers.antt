use Rattle.std.proofs.Common.{sym, ◌∙◌}
use Rattle.c6x_encoding.proofs.Joining.{room_at, Joins-next}
use Rattle.c6x_encoding.proofs.fields.join.Goals as goal

pub put_below-requires-clause-fits : goal.put_below-requires-clause-fits
put_below-requires-clause-fits c = room_at _ _ _ (0, 0) c.loop-field-test.true c.loop-field.invariant.below

pub loop-field-preserved : goal.loop-field-preserved
loop-field-preserved c = Joins-next _ _ _ _ (0, 0) c.loop-field-test.true c.loop-field.invariant (sym c.put_below.ensures ∙ c.in_ok-word.was)
