use Rattle.std.proofs.Common.{take, ap, ◌∙◌, arith}
use Rattle.c6x_spec.specs.Memory.{spliced}
use Rattle.c6x_reloc.proofs.FieldBits.{patched_at}
use Rattle.c6x_reloc.proofs.fields.patch_at.Goals as goal

pub returns-clause-sets : goal.returns-clause-sets
returns-clause-sets c =
    (patched_at _ _ _ _ _ _ _ _
    c.size_of-size.ensures.size c.size_of-size.ensures.few c.size_of-size.ensures.within
    c.requires.inside c.word_from-number.ensures.bytes c.word_from-number.ensures.value (omega arith) c.patch.ensures
    (c.put.ensures ∙ ap (λ b. spliced c.args.bytes.now c.args.place (take c.size_of-size.result b)) c.to_le_bytes-new.ensures)).sets

pub returns-clause-holds : goal.returns-clause-holds
returns-clause-holds c =
    (patched_at _ _ _ _ _ _ _ _
    c.size_of-size.ensures.size c.size_of-size.ensures.few c.size_of-size.ensures.within
    c.requires.inside c.word_from-number.ensures.bytes c.word_from-number.ensures.value (omega arith) c.patch.ensures
    (c.put.ensures ∙ ap (λ b. spliced c.args.bytes.now c.args.place (take c.size_of-size.result b)) c.to_le_bytes-new.ensures)).holds
