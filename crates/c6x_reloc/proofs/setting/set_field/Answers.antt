use Rattle.c6x_reloc.proofs.Steps.{one_more, one_set}
use Rattle.c6x_reloc.proofs.setting.set_field.Goals as goal

pub returns-clause-one : goal.returns-clause-one
returns-clause-one c = one_set c.args.field c.args.bytes.now c.patch_at.new.bytes c.patch_at.ensures.sets

pub returns-clause-more : goal.returns-clause-more
returns-clause-more c = λ first fields had. one_more c.args.field first c.args.bytes.now c.patch_at.new.bytes fields c.patch_at.ensures.sets had
