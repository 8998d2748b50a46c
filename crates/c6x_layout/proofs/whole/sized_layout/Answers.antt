use Rattle.std.proofs.Common.{arith, ◌≡◌, ◌∙◌}
use Rattle.c6x_dsbt.proofs.FewNeeds.{stubs_few, words_few}
use Rattle.c6x_symbols.proofs.Few.{parts_few}
use Rattle.c6x_symbols.proofs.Objects.{objects_have_few}
use Rattle.c6x_symbols.specs.Parts.{parts_of}
use Rattle.c6x_layout.proofs.HeldNames.{bindings_held}
use Rattle.c6x_layout.proofs.whole.sized_layout.Goals as goal

pub layout_of-requires-clause-held : goal.layout_of-requires-clause-held
layout_of-requires-clause-held c = rw c.requires.bound (bindings_held c.args.objects.now c.requires.form)

pub layout_of-requires-clause-words : goal.layout_of-requires-clause-words
layout_of-requires-clause-words c =
    let few = words_few c.args.objects.now c.args.bindings.now c.requires.form in
    rw c.requires.words (omega (arith, few, c.requires.few))

pub layout_of-requires-clause-stubs : goal.layout_of-requires-clause-stubs
layout_of-requires-clause-stubs c =
    let few = stubs_few c.args.objects.now c.args.bindings.now c.requires.form in
    rw c.requires.stubs (omega (arith, few, c.requires.few))

pub layout_of-requires-clause-few_parts : goal.layout_of-requires-clause-few_parts
layout_of-requires-clause-few_parts c =
    let few = parts_few c.args.objects.now (objects_have_few _ c.args.objects.now c.requires.form) in
    let same : c.deref.result.now ≡ parts_of c.args.objects.now = c.deref.ensures.value ∙ c.in_ok-parts.ensures in
    rw same (omega (arith, few, c.requires.few))
