use Rattle.std.proofs.Common.{◌∙◌, ◌++◌, ap, sym, take, arith}
use Rattle.c6x_link.specs.Sections.{one_of}
use Rattle.c6x_link.proofs.Listed.{taken_more}
use Rattle.c6x_link.proofs.loader_words.stub_list.Goals as goal

pub loop-place-preserved : goal.loop-place-preserved
loop-place-preserved c =
    c.in_ok-put_one.ensures ∙ ap (λ xs. xs ++ one_of c.get.result) c.loop-place.invariant
    ∙ ap (λ o. take c.loop-place.place c.args.stubs.now ++ one_of o) c.get.ensures
    ∙ sym (taken_more c.args.stubs.now c.loop-place.place 0 (omega arith))
