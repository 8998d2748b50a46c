use Rattle.c6x_encoding.proofs.Joining.{Joins}
use Rattle.c6x_encoding.proofs.fields.join.Given as goal

abbrev pub invariant-loop-field : goal.invariant-loop-field
invariant-loop-field l = Joins l.word l.fields l.field-index
